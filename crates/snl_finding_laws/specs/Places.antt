-- Where diagnostics and lines are in their text, and which findings are shown.
use Rattle.std.specs.Prelude.{ℕ, ◌+◌, ◌≤◌, ◌||◌, All, Bool, IfSome, List, length, Option}
use Rattle.snl_tables.specs.declared.rows.SetRow.{SetRow}
use Rattle.snl_tables.specs.declared.rows.StateRow.{StateRow}
use Rattle.snl_codes.specs.Codes.{is_error}
use Rattle.snl_kept.specs.declared.found.findings.Diagnostic.{Diagnostic}
use Rattle.snl_kept.specs.declared.found.findings.Finding.{Finding}
use Rattle.snl_kept.specs.Warnings.{warns_in}

-- The name of a file is bytes of the text.
abbrev pub FileLiesIn : List ℕ → Option (ℕ × ℕ) → Type 0
FileLiesIn text file = IfSome file (λ f. f.0 + f.1 ≤ length text)

-- What a diagnostic quotes is bytes of the text from its offset on, and so is the name of its file.
pub record DiagnosticLiesIn (text : List ℕ) (d : Diagnostic) : Type 0 where
  pub subject : d.offset + d.subject ≤ length text
  pub file : FileLiesIn text d.file

abbrev pub StateFileLiesIn : List ℕ → StateRow → Type 0
StateFileLiesIn text row = FileLiesIn text row.line.file

pub record SetFilesLieIn (text : List ℕ) (row : SetRow) : Type 0 where
  pub own : FileLiesIn text row.line.file
  pub states : All (StateFileLiesIn text) row.states

-- An error is always shown, a warning unless the text's options turn warnings off.
abbrev pub is_shown : List ℕ → Finding → Bool
is_shown text x = is_error x.code || warns_in text
