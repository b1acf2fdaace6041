-- The first finding that is the same as one, by its place.
use Rattle.std.proofs.Common.{◌≡◌, ℕ, zero, suc, ◌+◌, ◌<◌, ◌≤◌, Bool, true, false, not, cond, nat_lt, List, [], ◌∷◌, length, get_or, Some, None, refl, ap, sym, ◌∙◌, arith}
use Rattle.std.specs.List.{position, position_or_len, remove}
use Rattle.std.proofs.lemmas.Bool.{le-ltb, ltb-false}
use Rattle.std.proofs.lemmas.List.Quantifiers.{position-Some}
use Rattle.snl_kept.specs.declared.found.findings.Finding.{Finding}
use Rattle.snl_kept.specs.OwnFindings.{is_same, taken_out}

module _ (x : Finding) where
  at_first : (ys : List Finding) (i : ℕ) (d : Finding) → i < length ys → is_same x (get_or ys i d) ≡ true → ((k : ℕ) → k < i → is_same x (get_or ys k d) ≡ false) → remove ys i ≡ taken_out x ys
  at_first [] i d within here none = absurd (omega arith)
  at_first (y ∷ ys) zero d within here none = ap (λ (b : Bool). cond b ys (y ∷ taken_out x ys)) (sym here)
  at_first (y ∷ ys) (suc i) d within here none =
      ap (λ (l : List Finding). y ∷ l) (at_first ys i d (omega arith) here (λ k lt. none (suc k) (omega arith)))
      ∙ ap (λ (b : Bool). cond b ys (y ∷ taken_out x ys)) (sym (none 0 (omega arith)))

  pub removed_is : (ys : List Finding) (i : ℕ) → position (is_same x) ys ≡ Some i → remove ys i ≡ taken_out x ys
  removed_is ys i is = let found = position-Some (is_same x) ys i x is in at_first ys i x found.0 found.1 found.2

  nowhere : (ys : List Finding) → nat_lt (position_or_len (is_same x) ys) (length ys) ≡ false → ys ≡ taken_out x ys
  nowhere [] none = refl
  nowhere (y ∷ ys) none = by (is_same x y) none (nowhere ys)
    where
      by : (b : Bool) → nat_lt (cond (not b) (1 + position_or_len (is_same x) ys) 0) (length (y ∷ ys)) ≡ false → (nat_lt (position_or_len (is_same x) ys) (length ys) ≡ false → ys ≡ taken_out x ys)
          → y ∷ ys ≡ (cond b ys (y ∷ taken_out x ys))
      by true none rest = absurd (omega (arith, ltb-false 0 (length (y ∷ ys)) none))
      by false none rest =
          let after : length ys ≤ position_or_len (is_same x) ys = omega (arith, ltb-false (1 + position_or_len (is_same x) ys) (length (y ∷ ys)) none) in
          ap (λ (l : List Finding). y ∷ l) (rest (le-ltb (position_or_len (is_same x) ys) (length ys) after))

  pub kept_is : (ys : List Finding) → position (is_same x) ys ≡ None → ys ≡ taken_out x ys
  kept_is ys is = nowhere ys (by (nat_lt (position_or_len (is_same x) ys) (length ys)) is)
    where
      by : (b : Bool) → cond b (Some (position_or_len (is_same x) ys)) None ≡ None → b ≡ false
      by true e = cc
      by false e = refl
