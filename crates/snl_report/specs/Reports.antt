-- The report of a text, which the text and its name alone define.
use Rattle.std.specs.Prelude.{ℕ, List, ◌++◌, None, codes, drop, flat_map, take}
use Rattle.snl_excerpt.specs.Lines.{shown_bytes}
use Rattle.snl_kept.specs.declared.found.findings.Diagnostic.{Diagnostic}
use Rattle.snl_kept.specs.Diagnostics.{diagnostics_of, errors_of, warnings_of}
use Rattle.snl_report.specs.declared.form.Style.{Style}
use Rattle.snl_report.specs.Formed.{formed}
use Rattle.snl_report.specs.Noted.{noted_text}
use Rattle.snl_script.specs.Parts.{sum_text}

abbrev pub name_line : (name : List ℕ) → List ℕ
name_line name = shown_bytes name ++ codes ": "

-- `NAME: errors E warnings W`.
abbrev pub sum_line : (name : List ℕ) → (errors warnings : ℕ) → List ℕ
sum_line name errors warnings = name_line name ++ sum_text errors warnings

-- So many diagnostics are told with their notes, the first ones.
abbrev pub most_noted : ℕ
most_noted = 100

abbrev pub noted_block : Style → (name text : List ℕ) → Diagnostic → List ℕ
noted_block style name text d = formed style name text d (noted_text text d)

abbrev pub plain_block : Style → (name text : List ℕ) → Diagnostic → List ℕ
plain_block style name text d = formed style name text d None

abbrev pub blocks : Style → (name text : List ℕ) → List Diagnostic → List ℕ
blocks style name text ds =
    flat_map (noted_block style name text) (take most_noted ds)
    ++ flat_map (plain_block style name text) (drop most_noted ds)

-- Each of the diagnostics of the text in a form, in their order, and how many errors and warnings
-- there are.
unfoldable pub report_of : Style → (name text : List ℕ) → List ℕ
report_of style name text =
    blocks style name text (diagnostics_of text) ++ sum_line name (errors_of text) (warnings_of text)
