-- Where the same is answered of the names that an item uses and of its targets, the same is found
-- wrong in it.
use Rattle.std.proofs.Common.{◌≡◌, ℕ, Bool, true, false, not, ◌&&◌, cond, filter, All, List, [], ◌∷◌, ◌++◌, map, Option, Some, None, is_none, refl, ap, sym, ◌∙◌, true≢false}
use Rattle.std.proofs.lemmas.List.Elements.{recursion_from_All}
use Rattle.std.specs.List.{AllByRecursion as Each, flat_map}
use Rattle.snl_walk.specs.declared.occurrence.Local.{Local}
use Rattle.snl_walk.specs.declared.occurrence.Occurrence.{Occurrence}
use Rattle.snl_walk.specs.declared.occurrence.What.{What}
use Rattle.snl_walk.specs.declared.occurrence.What.TheVariants as what
use Rattle.snl_walk.specs.declared.other_items.Outer.{Outer}
use Rattle.snl_codes.specs.declared.code.Code.TheVariants.{E10, W01}
use Rattle.snl_walk.specs.Passing.{passes}
use Rattle.snl_walk.specs.Rules.{finding, findings, found_wrong, rules_at, rules_at_call, rules_at_use, when}
use Rattle.snl_walk.specs.Undeclared.{firsts_after, is_built_in, is_undeclared, undeclared}
use Rattle.snl_walk.specs.Uses.{is_call, is_target, is_use, tokens_where}
use Rattle.snl_facts.specs.Each.{each_both, each_weaker}

-- what holds at the occurrences that pass a test
each_passing : (P : ℕ → Type 0) (test : Occurrence → Bool) (os : List Occurrence) → Each P (tokens_where test os) → Each (λ o. test o ≡ true → P o.token) os
each_passing P test [] h = tt
each_passing P test (o ∷ os) h = by (each_passing P test os) (test o) refl h
  where
    by : (Each P (tokens_where test os) → Each (λ k. test k ≡ true → P k.token) os) → (b : Bool) → test o ≡ b →
        Each P (map (λ (k : Occurrence). k.token) (cond b (o ∷ filter test os) (filter test os))) → (test o ≡ true → P o.token) × Each (λ k. test k ≡ true → P k.token) os
    by rest true is k = ((λ _. k.0), rest k.1)
    by rest false is k = ((λ e. absurd (true≢false (sym e ∙ is))), rest k)

-- two tests that agree on each element keep the same ones
kept_alike : (p q : Occurrence → Bool) (os : List Occurrence) → Each (λ o. p o ≡ q o) os → filter p os ≡ filter q os
kept_alike p q [] h = refl
kept_alike p q (o ∷ os) h = ap (λ b. cond b (o ∷ filter p os) (filter p os)) h.0 ∙ ap (λ l. cond (q o) (o ∷ l) l) (kept_alike p q os h.1)

joined_alike : {A : Type 0} (f g : Occurrence → List A) (os : List Occurrence) → Each (λ o. f o ≡ g o) os → flat_map f os ≡ flat_map g os
joined_alike f g [] h = refl
joined_alike f g (o ∷ os) h = ap (λ l. l ++ flat_map f os) h.0 ∙ ap (λ l. g o ++ l) (joined_alike f g os h.1)

module _ (bytes : ℕ → List ℕ) (outer other : List ℕ → Option Outer) (misses missed : List ℕ → Bool) where
  abbrev AgreeAt : ℕ → Type 0
  AgreeAt n = outer (bytes n) ≡ other (bytes n)

  abbrev MissAlike : ℕ → Type 0
  MissAlike n = misses (bytes n) ≡ missed (bytes n)

  passes_alike : (n : ℕ) (means : Option Local) → AgreeAt n → passes outer (bytes n) means ≡ passes other (bytes n) means
  passes_alike n (Some d) h = refl
  passes_alike n None h = h

  rules_alike : (o : Occurrence) (w : What) → (is_use w ≡ true → AgreeAt o.token) → (is_target w ≡ true → MissAlike o.token) →
      rules_at outer misses (bytes o.token) o w ≡ rules_at other missed (bytes o.token) o w
  rules_alike o (what.Declaration is_wrong) used led = refl
  rules_alike o (what.Change in_transition) used led = refl
  rules_alike o (what.Jump in_loop) used led = refl
  rules_alike o what.Target used led = ap (λ b. when b E10) (led refl)
  rules_alike o (what.Name m) used led = by (is_call m.follows) refl
    where
      by : (b : Bool) → is_call m.follows ≡ b →
          cond b (rules_at_call (bytes o.token) m) (rules_at_use (passes outer (bytes o.token) o.means) m) ≡ cond b (rules_at_call (bytes o.token) m) (rules_at_use (passes other (bytes o.token) o.means) m)
      by true is = refl
      by false is = ap (λ p. rules_at_use p m) (passes_alike o.token o.means (used (ap not is)))

  undeclared_alike : (o : Occurrence) → (is_use o.what ≡ true → AgreeAt o.token) → is_undeclared outer (bytes o.token) o ≡ is_undeclared other (bytes o.token) o
  undeclared_alike o used = by (is_use o.what) refl
    where
      by : (b : Bool) → is_use o.what ≡ b →
          (b && is_none (passes outer (bytes o.token) o.means) && not (is_built_in (bytes o.token))) ≡ (b && is_none (passes other (bytes o.token) o.means) && not (is_built_in (bytes o.token)))
      by true is = ap (λ p. is_none p && not (is_built_in (bytes o.token))) (passes_alike o.token o.means (used is))
      by false is = refl

  abbrev UsedAlike : Occurrence → Type 0
  UsedAlike o = is_use o.what ≡ true → AgreeAt o.token

  abbrev LedAlike : Occurrence → Type 0
  LedAlike o = is_target o.what ≡ true → MissAlike o.token

  pub findings_alike : (os : List Occurrence) → All AgreeAt (tokens_where (λ o. is_use o.what) os) → All MissAlike (tokens_where (λ o. is_target o.what) os) →
      findings bytes outer misses os ≡ findings bytes other missed os
  unfolding findings
  findings_alike os agree miss =
      let used : Each UsedAlike os = each_passing AgreeAt (λ o. is_use o.what) os (recursion_from_All AgreeAt (tokens_where (λ o. is_use o.what) os) agree) in
      let led : Each LedAlike os = each_passing MissAlike (λ o. is_target o.what) os (recursion_from_All MissAlike (tokens_where (λ o. is_target o.what) os) miss) in
      let wrong : flat_map (found_wrong bytes outer misses) os ≡ flat_map (found_wrong bytes other missed) os =
      joined_alike (found_wrong bytes outer misses) (found_wrong bytes other missed) os
      (each_weaker (λ o. UsedAlike o × LedAlike o) (λ o. found_wrong bytes outer misses o ≡ found_wrong bytes other missed o) (λ o h. ap (map (finding o.token)) (rules_alike o o.what h.0 h.1)) os (each_both UsedAlike LedAlike os used led)) in
      let first : undeclared bytes outer os ≡ undeclared bytes other os =
      ap (λ kept. firsts_after bytes [] (map (λ (o : Occurrence). o.token) kept))
      (kept_alike (λ o. is_undeclared outer (bytes o.token) o) (λ o. is_undeclared other (bytes o.token) o) os
      (each_weaker UsedAlike (λ o. is_undeclared outer (bytes o.token) o ≡ is_undeclared other (bytes o.token) o) undeclared_alike os used)) in
      ap (λ l. l ++ map (λ n. finding n W01) (undeclared bytes outer os)) wrong
      ∙ ap (λ ns. flat_map (found_wrong bytes other missed) os ++ map (λ n. finding n W01) ns) first
