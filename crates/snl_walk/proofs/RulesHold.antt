-- What holds of each code of a rule holds of what is found at occurrences.
use Rattle.std.proofs.Common.{◌≡◌, ℕ, Bool, true, false, cond, List, [], ◌∷◌, ◌++◌, map, Option, None, inl, inr, refl, sym, ap, ◌∙◌}
use Rattle.std.specs.List.{AllByRecursion as Each, flat_map}
use Rattle.std.proofs.lemmas.Bool.{false≢true}
use Rattle.snl_codes.specs.declared.code.Code.{Code}
use Rattle.snl_codes.specs.declared.code.Code.TheVariants.{E07, W01}
use Rattle.snl_walk.specs.declared.occurrence.Manner.{Manner}
use Rattle.snl_walk.specs.declared.occurrence.Local.{Local}
use Rattle.snl_walk.specs.declared.occurrence.Occurrence.{Occurrence}
use Rattle.snl_walk.specs.declared.occurrence.What.{What}
use Rattle.snl_walk.specs.declared.occurrence.What.TheVariants as what
use Rattle.snl_walk.specs.declared.other_items.Outer.{Outer}
use Rattle.snl_walk.specs.declared.rules.Finding.{Finding}
use Rattle.snl_codes.specs.Codes.{Finder, finder_of, finds_at_occurrences, finds_by_rules, is_occurrence_code, is_rule_code, rules}
use Rattle.snl_walk.specs.Passing.{passes}
use Rattle.snl_walk.specs.Repeated.{IsApartFrom, IsNoRepetitionAt}
use Rattle.snl_walk.specs.Rules.{finding, findings, found_wrong, is_repeated, rules_at, rules_at_call, rules_at_name, rules_at_use, when}
use Rattle.snl_walk.specs.Undeclared.{undeclared}
use Rattle.snl_walk.specs.Uses.{is_call}
use Rattle.snl_facts.specs.Each.{each_append, each_by, each_map}

-- ---- at one occurrence

module _ (P : Code → Type 0) (rule : (c : Code) → is_occurrence_code c ≡ true → P c) where
  when_told : (b : Bool) (c : Code) → (b ≡ true → P c) → Each P (when b c)
  when_told true c h = (h refl, tt)
  when_told false c h = tt

  one : (b : Bool) (c : Code) → is_occurrence_code c ≡ true → Each P (when b c)
  one b c is = when_told b c (λ t. rule c is)

  two : (a b : Bool) (c d : Code) → is_occurrence_code c ≡ true → is_occurrence_code d ≡ true → Each P (when a c ++ when b d)
  two a b c d h k = each_append P (when a c) (when b d) (one a c h) (one b d k)

  at_name : (name : List ℕ) (passed : Option Outer) (m : Manner) → Each P (rules_at_name name passed m)
  at_name name passed m = by (is_call m.follows)
    where
      by : (b : Bool) → Each P (cond b (rules_at_call name m) (rules_at_use passed m))
      by true = one _ _ refl
      by false = two _ _ _ _ refl refl

  module _ (outer : List ℕ → Option Outer) (misses : List ℕ → Bool) (name : List ℕ) (o : Occurrence) where
    pub rules_hold : (is_repeated o.token o.means ≡ true → P E07) → (w : What) → Each P (rules_at outer misses name o w)
    rules_hold again (what.Declaration is_wrong) = each_append P (when (is_repeated o.token o.means) E07) (when is_wrong _) (when_told _ E07 again) (one is_wrong _ refl)
    rules_hold again (what.Change in_transition) = one _ _ refl
    rules_hold again (what.Jump in_loop) = one _ _ refl
    rules_hold again what.Target = one _ _ refl
    rules_hold again (what.Name m) = at_name name (passes outer name o.means) m

-- ---- in all

module _ (bytes : ℕ → List ℕ) (outer : List ℕ → Option Outer) (misses : List ℕ → Bool) (F : Finding → Type 0) where
  abbrev MayRepeat : Occurrence → Type 0
  MayRepeat o = is_repeated o.token o.means ≡ true → F (finding o.token E07)

  pub wrong_hold : ((n : ℕ) (c : Code) → is_occurrence_code c ≡ true → F (finding n c)) → (os : List Occurrence) → Each MayRepeat os → Each F (flat_map (found_wrong bytes outer misses) os)
  wrong_hold rule [] h = tt
  wrong_hold rule (o ∷ os) h =
      each_append F (found_wrong bytes outer misses o) (flat_map (found_wrong bytes outer misses) os)
      (each_map F (finding o.token) (rules_at outer misses (bytes o.token) o o.what)
      (rules_hold (λ c. F (finding o.token c)) (rule o.token) outer misses (bytes o.token) o h.0 o.what))
      (wrong_hold rule os h.1)

  pub findings_hold : ((n : ℕ) (c : Code) → is_occurrence_code c ≡ true → F (finding n c)) → ((n : ℕ) → F (finding n W01)) → (os : List Occurrence) → Each MayRepeat os → Each F (findings bytes outer misses os)
  unfolding findings
  findings_hold rule none os h =
      each_append F (flat_map (found_wrong bytes outer misses) os) (map (λ n. finding n W01) (undeclared bytes outer os)) (wrong_hold rule os h)
      (each_map F (λ n. finding n W01) (undeclared bytes outer os) (each_by (λ n. F (finding n W01)) none (undeclared bytes outer os)))

-- ---- codes of rules

by_rules : (f : Finder) → finds_at_occurrences f ≡ true → finds_by_rules f ≡ true
by_rules rules h = refl
by_rules _ h = absurd (false≢true h)

module _ (bytes : ℕ → List ℕ) (outer : List ℕ → Option Outer) (misses : List ℕ → Bool) (os : List Occurrence) where
  abbrev HasRuleCode : Finding → Type 0
  HasRuleCode f = is_rule_code f.code ≡ true

  pub rule_codes : Each HasRuleCode (findings bytes outer misses os)
  rule_codes =
      findings_hold bytes outer misses HasRuleCode (λ n c is. by_rules (finder_of c) is) (λ n. refl) os
      (each_by (MayRepeat bytes outer misses HasRuleCode) (λ o again. refl) os)

  module _ (tokens : List ℕ) where
    not_again : (means : Option Local) (o : Occurrence) → o.means ≡ means → means ≡ None → is_repeated o.token o.means ≡ true → ⊥
    not_again means o is none again = false≢true (sym (ap (is_repeated o.token) (is ∙ none)) ∙ again)

    may_repeat : (o : Occurrence) → IsApartFrom tokens o → MayRepeat bytes outer misses (IsNoRepetitionAt tokens) o
    may_repeat o (inl none) again = absurd (not_again o.means o refl none again)
    may_repeat o (inr never) again = λ same inside. never inside

    each_of : (os : List Occurrence) → Each (IsApartFrom tokens) os → Each (MayRepeat bytes outer misses (IsNoRepetitionAt tokens)) os
    each_of [] h = tt
    each_of (o ∷ os) h = (may_repeat o h.0, each_of os h.1)

    pub no_repetitions : Each (IsApartFrom tokens) os → Each (IsNoRepetitionAt tokens) (findings bytes outer misses os)
    no_repetitions apart =
        findings_hold bytes outer misses (IsNoRepetitionAt tokens) (λ n c is same inside. false≢true (sym (ap is_occurrence_code same) ∙ is)) (λ n same inside. cc) os
        (each_of os apart)
