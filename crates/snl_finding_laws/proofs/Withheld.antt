-- What is shown where warnings are off, and where they are on.
use Rattle.std.proofs.Common.{◌≡◌, ℕ, Bool, true, false, ◌&&◌, ◌||◌, cond, List, [], ◌∷◌, filter, refl, sym, ap, ◌∙◌, subst, inl, inr}
use Rattle.std.specs.Prelude.{count_by}
use Rattle.std.specs.List.{AllByRecursion as Each}
use Rattle.std.proofs.lemmas.Bool.{cases_Bool}
use Rattle.std.proofs.Math.Bool.{and-true, or-true}
use Rattle.snl_codes.specs.Codes.{is_error}
use Rattle.snl_facts.specs.Each.{each_map}
use Rattle.snl_kept.specs.declared.found.findings.Diagnostic.{Diagnostic}
use Rattle.snl_kept.specs.declared.found.findings.Finding.{Finding}
use Rattle.snl_kept.specs.Diagnostics.{diagnostic, diagnostics_of, found, shown, shown_if}
use Rattle.snl_kept.specs.Order.{in_order}
use Rattle.snl_kept.specs.OrderLaws.{each_in_order}
use Rattle.snl_kept.specs.Program.{items_of}
use Rattle.snl_kept.specs.Shifted.{finding_of}
use Rattle.snl_kept.specs.Warnings.{warns_in}
use Rattle.snl_finding_laws.specs.Places.{is_shown}
use Rattle.snl_finding_laws.specs.Settings.{AreWarningsOff}
use Rattle.snl_finding_laws.proofs.Counts.{count_same, counted}
use Rattle.snl_finding_laws.proofs.Settings.{off_is, off_told}
use Rattle.snl_finding_laws.proofs.Shown.{all_shown}

each_kept_if : (p : Finding → Bool) (x : Finding) (xs : List Finding) (b : Bool) → p x ≡ b → Each (λ y. p y ≡ true) (filter p xs) → Each (λ y. p y ≡ true) (cond b (x ∷ filter p xs) (filter p xs))
each_kept_if p x xs true is rest = (is, rest)
each_kept_if p x xs false is rest = rest

each_kept : (p : Finding → Bool) (xs : List Finding) → Each (λ y. p y ≡ true) (filter p xs)
each_kept p [] = tt
each_kept p (x ∷ xs) = each_kept_if p x xs (p x) refl (each_kept p xs)

only_errors : (text : List ℕ) → warns_in text ≡ false → Each (λ d. is_error d.code ≡ true) (diagnostics_of text)
unfolding diagnostics_of shown
only_errors text off =
    let P : Finding → Type 0 = λ x. is_error x.code ≡ true in
    let kept : Each P (shown_if (warns_in text) (found text)) = subst (λ (b : Bool). Each P (shown_if b (found text))) (sym off) (each_kept (λ x. is_error x.code) (found text)) in
    each_map (λ (d : Diagnostic). is_error d.code ≡ true) (diagnostic text) (in_order (shown text)) (each_in_order P (shown text) kept)

pub withheld : (text : List ℕ) → AreWarningsOff text (items_of text) → Each (λ d. is_error d.code ≡ true) (diagnostics_of text)
withheld text off = only_errors text (off_told text (items_of text) off)

on_unless : (text : List ℕ) → (AreWarningsOff text (items_of text) → ⊥) → warns_in text ≡ true
on_unless text not_off =
    elim (cases_Bool (warns_in text)) [
      | inl on ↦ on
      | inr off ↦ absurd (not_off (off_is text (items_of text) off))
    ]

any_shown : (text : List ℕ) (test : Finding → Bool) → warns_in text ≡ true → (x : Finding) → (test x && is_shown text x) ≡ test x
any_shown text test on x = ap (λ b. test x && (is_error x.code || b)) on ∙ (ap (λ b. test x && b) (or-true (is_error x.code)) ∙ and-true (test x))

same_count : (p q : Finding → Bool) → ((x : Finding) → p x ≡ q x) → (xs : List Finding) → count_by p xs ≡ count_by q xs
same_count p q h xs = counted p xs ∙ (count_same p q h xs ∙ sym (counted q xs))

pub all_where_on : (text : List ℕ) (test : Finding → Bool) → (AreWarningsOff text (items_of text) → ⊥) → count_by (λ d. test (finding_of d)) (diagnostics_of text) ≡ count_by test (found text)
all_where_on text test not_off =
    all_shown text test ∙ same_count (λ x. test x && is_shown text x) test (any_shown text test (on_unless text not_off)) (found text)

absorbed : (a b c : Bool) → ((a && b) && (b || c)) ≡ (a && b)
absorbed true true c = refl
absorbed true false c = refl
absorbed false b c = refl

pub errors_shown : (text : List ℕ) (test : Finding → Bool) → count_by (λ d. test (finding_of d) && is_error d.code) (diagnostics_of text) ≡ count_by (λ x. test x && is_error x.code) (found text)
errors_shown text test =
    let both : Finding → Bool = λ x. test x && is_error x.code in
    all_shown text both ∙ same_count (λ x. both x && is_shown text x) both (λ x. absorbed (test x) (is_error x.code) (warns_in text)) (found text)
