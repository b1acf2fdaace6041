-- The diagnostics of a text, which the text alone defines.
use Rattle.std.specs.Prelude.{ℕ, Bool, List, ◌++◌, count_by, filter, if◌then◌else◌, map, not}
use Rattle.std.specs.Cmp.Lexicographic.{slice_cmp}
use Rattle.std.specs.Ordering.{is_lt, nat_cmp, ordering_then}
use Rattle.snl_lex.specs.declared.lines.Line.{Line}
use Rattle.snl_lex.specs.Lines.{line_at}
pub use Rattle.snl_codes.specs.Codes.{is_error, message_of, name_of}
use Rattle.snl_kept.specs.declared.found.findings.Diagnostic.{Diagnostic}
use Rattle.snl_kept.specs.declared.found.findings.Finding.{Finding}
use Rattle.snl_kept.specs.Checked.{checked_faults}
use Rattle.snl_kept.specs.Faults.{faults_of}
use Rattle.snl_kept.specs.Linked.{linked_faults}
use Rattle.snl_kept.specs.Order.{in_order}
use Rattle.snl_kept.specs.Program.{ProgramItem, items_of}
use Rattle.snl_kept.specs.Tables.{walked_faults}
use Rattle.snl_kept.specs.Warnings.{shows_warnings}

-- What is found in a text: at its faulty items, by the links of its items, in each item by itself,
-- and by the walks of its state sets.
unfoldable pub found : List ℕ → List Finding
found text = faults_of text (items_of text) ++ linked_faults text (items_of text) ++ checked_faults text (items_of text) ++ walked_faults text (items_of text)

-- What of it is shown: no warnings, where they are turned off.
abbrev pub shown_if : Bool → List Finding → List Finding
shown_if warns found = if warns then found else filter (λ x. is_error x.code) found

abbrev pub shown_of : List ℕ → List ProgramItem → List Finding → List Finding
shown_of text xs found = shown_if (shows_warnings text xs) found

unfoldable pub shown : List ℕ → List Finding
shown text = shown_of text (items_of text) (found text)

-- A finding with its line and file.
abbrev pub on_line : Finding → Line → Diagnostic
on_line x line = record { offset = x.offset; line = line.number; file = line.file; code = x.code; subject = x.subject }

abbrev pub diagnostic : List ℕ → Finding → Diagnostic
diagnostic text x = on_line x (line_at text x.offset)

-- The diagnostics of a text, by offset and then by code.
unfoldable pub diagnostics_of : List ℕ → List Diagnostic
diagnostics_of text = map (diagnostic text) (in_order (shown text))

-- One diagnostic is before another: by offset, and at one offset by code, as text.
abbrev pub stands_before : Diagnostic → Diagnostic → Bool
stands_before x y = is_lt (ordering_then (nat_cmp x.offset y.offset) (slice_cmp nat_cmp (name_of x.code) (name_of y.code)))

-- How many of them are errors.
unfoldable pub errors_of : List ℕ → ℕ
errors_of text = count_by (λ d. is_error d.code) (diagnostics_of text)

-- How many of them are warnings.
unfoldable pub warnings_of : List ℕ → ℕ
warnings_of text = count_by (λ d. not (is_error d.code)) (diagnostics_of text)
