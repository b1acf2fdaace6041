-- Lemmas on the entries that are the first of their names: what one more entry is to their numbers.
use Rattle.std.proofs.Common.{◌≡◌, ℕ, suc, ◌<◌, Bool, true, false, cond, List, [], ◌∷◌, ◌++◌, length, Option, None, Some, is_some, slice_get, nat_eq, refl, sym, ap, ◌∙◌, arith, length-append, true≢false, if◌then◌else◌}
use borrow.Author.Tests.{eq-eqb, ne_eqb}
use Rattle.std.proofs.lemmas.List.{append-nil}
use Rattle.std.proofs.lemmas.List.Quantifiers.{position-Some}
use Rattle.std.specs.Option.{option_map_or, option_or}
use Rattle.snl_scope.specs.BelowLaws.{all_below_same}
use Rattle.snl_facts.specs.Positions.{position_push}
use Rattle.snl_scope.specs.Below.{all_below}
use Rattle.snl_scope.specs.Flags.{is_first, is_first_at}
use Rattle.snl_scope.specs.Names.{Entry, has_name, number_in}
use Rattle.snl_scope.proofs.Equality.{name_same}
use Rattle.snl_scope.proofs.Searches.{get-front, get-last}

module _ (es : List Entry) (e : Entry) where
  -- an entry that came before stays first, or not
  first-kept : (k : ℕ) → k < length es → (x : Entry) → is_first (es ++ e ∷ []) k x ≡ is_first es k x
  first-kept k l x = ap (λ o. option_map_or (nat_eq k) o false) (position_push (has_name x.namespace x.name) es e) ∙ by (number_in es x.namespace x.name) (has_name x.namespace x.name e)
    where
      by : (o : Option ℕ) (b : Bool) → option_map_or (nat_eq k) (option_or o (cond b (Some (length es)) None)) false ≡ option_map_or (nat_eq k) o false
      by (Some n) b = refl
      by None true = ne_eqb k (length es) (λ same. omega (arith, l, same))
      by None false = refl

  pub is_first_at-kept : (k : ℕ) → k < length es → is_first_at (es ++ e ∷ []) k ≡ is_first_at es k
  is_first_at-kept k l = ap (λ o. option_map_or (is_first (es ++ e ∷ []) k) o false) (get-front es e k l) ∙ by (slice_get es k)
    where
      by : (o : Option Entry) → option_map_or (is_first (es ++ e ∷ []) k) o false ≡ option_map_or (is_first es k) o false
      by None = refl
      by (Some x) = first-kept k l x

  -- the last entry is first where its name is new
  is_first_at-last : is_first_at (es ++ e ∷ []) (length es) ≡ option_map_or (nat_eq (length es)) (option_or (number_in es e.namespace e.name) (Some (length es))) false
  is_first_at-last =
      ap (λ o. option_map_or (is_first (es ++ e ∷ []) (length es)) o false) (get-last es e)
      ∙ ap (λ o. option_map_or (nat_eq (length es)) o false) (position_push (has_name e.namespace e.name) es e
      ∙ ap (λ b. option_or (number_in es e.namespace e.name) (cond b (Some (length es)) None)) (name_same e))

  more : all_below (is_first_at (es ++ e ∷ [])) (length (es ++ e ∷ [])) ≡ all_below (is_first_at es) (length es) ++ (if is_first_at (es ++ e ∷ []) (length es) then length es ∷ [] else [])
  more =
      let longer : length (es ++ e ∷ []) ≡ suc (length es) = omega (arith, length-append es (e ∷ [])) in
      ap (all_below (is_first_at (es ++ e ∷ []))) longer
      ∙ ap (λ l. l ++ (if is_first_at (es ++ e ∷ []) (length es) then length es ∷ [] else [])) (all_below_same (is_first_at (es ++ e ∷ [])) (is_first_at es) (length es) is_first_at-kept)

  pub firsts-seen : is_some (number_in es e.namespace e.name) ≡ true → all_below (is_first_at (es ++ e ∷ [])) (length (es ++ e ∷ [])) ≡ all_below (is_first_at es) (length es)
  firsts-seen seen =
      more ∙ ap (λ b. all_below (is_first_at es) (length es) ++ (if b then length es ∷ [] else [])) (is_first_at-last ∙ by (number_in es e.namespace e.name) refl seen)
      ∙ append-nil (all_below (is_first_at es) (length es))
    where
      by : (o : Option ℕ) → number_in es e.namespace e.name ≡ o → is_some o ≡ true → option_map_or (nat_eq (length es)) (option_or o (Some (length es))) false ≡ false
      by None h s = absurd (true≢false (sym s))
      by (Some n) h s = let w = (position-Some (has_name e.namespace e.name) es n e h).0 in ne_eqb (length es) n (λ same. omega (arith, w, same))

  pub firsts-new : is_some (number_in es e.namespace e.name) ≡ false → all_below (is_first_at (es ++ e ∷ [])) (length (es ++ e ∷ [])) ≡ all_below (is_first_at es) (length es) ++ length es ∷ []
  firsts-new unseen = more ∙ ap (λ b. all_below (is_first_at es) (length es) ++ (if b then length es ∷ [] else [])) (is_first_at-last ∙ by (number_in es e.namespace e.name) unseen)
    where
      by : (o : Option ℕ) → is_some o ≡ false → option_map_or (nat_eq (length es)) (option_or o (Some (length es))) false ≡ true
      by None s = eq-eqb (length es) (length es) refl
      by (Some n) s = absurd (true≢false s)
