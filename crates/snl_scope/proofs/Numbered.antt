-- What a list has for numbers, after one is put.
use Rattle.std.proofs.Common.{◌≡◌, ℕ, inl, inr, Bool, cond, List, nat_eq, Option, Some, sym, ap, ◌∙◌}
use Rattle.std.proofs.lemmas.Bool.Decides.{Decides-eqb}
use Rattle.std.specs.Option.{option_and_then}
use Rattle.std.proofs.lemmas.Bool.{cases_Bool}
use Rattle.snl_scope.specs.ByNumber.{IsPutAt, at_number}

pub put_told : {A : Type 0} (old new : List (Option A)) (number : ℕ) (value : A) → IsPutAt old new number value → (n : ℕ) → at_number new n ≡ cond (nat_eq number n) (Some value) (at_number old n)
put_told old new number value is n = elim (cases_Bool (nat_eq number n)) [
  | inl same ↦
      ap (at_number new) (sym ((Decides-eqb number n).0 same)) ∙ ap (option_and_then (λ o. o)) is.own ∙ sym (ap (λ (b : Bool). cond b (Some value) (at_number old n)) same)
  | inr other ↦ is.others n other ∙ sym (ap (λ (b : Bool). cond b (Some value) (at_number old n)) other)
]
