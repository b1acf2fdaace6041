-- The pieces of an answer make the answer.
use Rattle.std.proofs.Common.{◌≡◌, ℕ, List, [], ◌++◌, refl}
use Rattle.std.specs.List.{flat_map}
use Rattle.snl_kept.specs.declared.found.findings.Diagnostic.{Diagnostic}
use Rattle.snl_kept.specs.Diagnostics.{diagnostics_of, errors_of, warnings_of}
use Rattle.snl_run.specs.Answers.{line_text, report_of}
use Rattle.snl_script.specs.Parts.{sum_text}

-- the lines and the sum, said after an empty page, are the report
pub report_is : (page text session : List ℕ) (diagnostics : List Diagnostic) (errors warnings : ℕ) → page ≡ [] → text ≡ session → diagnostics ≡ diagnostics_of session → errors ≡ errors_of session → warnings ≡ warnings_of session → (page ++ flat_map (line_text text) diagnostics) ++ sum_text errors warnings ≡ report_of session
report_is page text session diagnostics errors warnings p t d e w = rw (p, t, d, e, w) refl
