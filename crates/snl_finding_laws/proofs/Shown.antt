-- How many diagnostics pass a test, by what is found.
use Rattle.std.proofs.Common.{◌≡◌, ℕ, Bool, true, false, ◌&&◌, ◌||◌, List, refl, sym, ap, ◌∙◌}
use Rattle.std.specs.Prelude.{count_by}
use Rattle.std.specs.List.{AllByRecursion as Each}
use Rattle.snl_codes.specs.Codes.{is_error}
use Rattle.snl_kept.specs.declared.found.findings.Diagnostic.{Diagnostic}
use Rattle.snl_kept.specs.declared.found.findings.Finding.{Finding}
use Rattle.snl_kept.specs.Diagnostics.{diagnostic, diagnostics_of, found, shown, shown_if}
use Rattle.snl_kept.specs.Order.{in_order}
use Rattle.snl_kept.specs.Shifted.{finding_of}
use Rattle.snl_kept.specs.Warnings.{warns_in}
use Rattle.snl_finding_laws.specs.Places.{is_shown}
use Rattle.snl_finding_laws.proofs.Counts.{count, count-filter, count-map, count_ordered, count_same, counted}
use Rattle.snl_facts.specs.Each.{each_map, each_filter}
use Rattle.std.proofs.Math.Bool.{and-true, or-true, or-false}
use Rattle.snl_kept.specs.OrderLaws.{each_in_order}

count_shown : (warns : Bool) (test : Finding → Bool) (xs : List Finding) → count test (shown_if warns xs) ≡ count (λ x. test x && (is_error x.code || warns)) xs
count_shown true test xs =
    count_same test (λ x. test x && (is_error x.code || true)) (λ x. sym (and-true (test x)) ∙ ap (λ b. test x && b) (sym (or-true (is_error x.code)))) xs
count_shown false test xs =
    count-filter test (λ x. is_error x.code) xs
    ∙ count_same (λ x. test x && is_error x.code) (λ x. test x && (is_error x.code || false)) (λ x. ap (λ b. test x && b) (sym (or-false (is_error x.code)))) xs

pub diagnostics_counted : (text : List ℕ) (test : Diagnostic → Bool) → count_by test (diagnostics_of text) ≡ count (λ x. test (diagnostic text x) && is_shown text x) (found text)
unfolding diagnostics_of shown
diagnostics_counted text test =
    let passes : Finding → Bool = λ x. test (diagnostic text x) in
    counted test (diagnostics_of text) ∙ count-map test (diagnostic text) (in_order (shown text)) ∙ count_ordered passes (shown text) ∙ count_shown (warns_in text) passes (found text)

pub all_shown : (text : List ℕ) (test : Finding → Bool) → count_by (λ d. test (finding_of d)) (diagnostics_of text) ≡ count_by (λ x. test x && is_shown text x) (found text)
all_shown text test = diagnostics_counted text (λ d. test (finding_of d)) ∙ sym (counted (λ x. test x && is_shown text x) (found text))

-- What holds of each finding of a text, with its line, holds of each diagnostic.
each_shown : (P : Finding → Type 0) (warns : Bool) (xs : List Finding) → Each P xs → Each P (shown_if warns xs)
each_shown P true xs h = h
each_shown P false xs h = each_filter P (λ x. is_error x.code) xs h

pub each_diagnostic : (text : List ℕ) (P : Diagnostic → Type 0) → Each (λ x. P (diagnostic text x)) (found text) → Each P (diagnostics_of text)
unfolding diagnostics_of shown
each_diagnostic text P h =
    each_map P (diagnostic text) (in_order (shown text))
    (each_in_order (λ x. P (diagnostic text x)) (shown text) (each_shown (λ x. P (diagnostic text x)) (warns_in text) (found text) h))
