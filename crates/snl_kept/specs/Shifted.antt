-- What a text says after an edit that shifts all of it: that leaves the tokens and what is found as
-- they are, each at its place or shifted, and the lines up to the next line marker.
use Rattle.std.specs.Prelude.{◌≡◌, ◌≢◌, ℕ, ◌+◌, ◌<◌, All, List, length, map, nat_le}
use Rattle.std.specs.List.{AllByRecursion}
use Rattle.snl_lex.specs.declared.line_shift.LineShift.{LineShift}
use Rattle.snl_lex.specs.declared.lines.Line.{Line}
use Rattle.snl_lex.specs.declared.piece.Piece.{Piece}
use Rattle.snl_lex.specs.declared.shift.Shift.{Shift}
use Rattle.snl_lex.specs.LineShift.{IsLineShift, moved_line}
use Rattle.snl_lex.specs.Shift.{IsOutside, shifted_offset}
use Rattle.snl_items.specs.Changes.{AreShifted}
use Rattle.snl_tables.specs.Moved.{moved_tables}
use Rattle.snl_moved.specs.Shifted.{start_at}
use Rattle.snl_kept.specs.declared.found.findings.Diagnostic.{Diagnostic}
use Rattle.snl_kept.specs.declared.found.findings.Finding.{Finding}
use Rattle.snl_kept.specs.Checks.{checks_of, links_in}
use Rattle.snl_kept.specs.Diagnostics.{diagnostics_of, on_line}
use Rattle.snl_lex.specs.Edit.{Edit}
use Rattle.snl_kept.specs.Entries.{entries_of}
use Rattle.snl_kept.specs.Program.{item_tokens}
use Rattle.snl_kept.specs.Stirred.{stirred_of}
use Rattle.snl_kept.specs.Tables.{tables_in}
use Rattle.snl_kept.specs.Warnings.{warns_in}

-- A finding after the edit.
abbrev pub shifted_finding : Shift → Finding → Finding
shifted_finding s x = record { offset = shifted_offset s x.offset; code = x.code; subject = x.subject }

-- A diagnostic as a finding, and its line.
abbrev pub finding_of : Diagnostic → Finding
finding_of d = record { offset = d.offset; code = d.code; subject = d.subject }

abbrev pub line_of : Diagnostic → Line
line_of d = record { number = d.line; file = d.file }

-- A diagnostic after the edit.
abbrev pub shifted_diagnostic : LineShift → Diagnostic → Diagnostic
shifted_diagnostic t d = on_line (shifted_finding t.by (finding_of d)) (moved_line t d.offset (line_of d))

-- So many tokens are before a place. No item that ends at one of these tokens, or is followed by
-- one that does, has its first token alone before it.
abbrev pub PartsNoItem : ℕ → List ℕ → Type 0
PartsNoItem before ends = (before ≢ 1) × All (λ e. before ≢ e + 1) ends

-- The first two tokens of an item are both before a place, or from it on. The item's line goes by
-- the first, and is told by the second.
abbrev pub IsOnOneSide : ℕ → List Piece → Type 0
IsOnOneSide place m = 1 < length m → nat_le place (start_at m 0) ≡ nat_le place (start_at m 1)

-- It is so for each item of a text.
abbrev pub AreOnOneSide : ℕ → List ℕ → Type 0
AreOnOneSide place text = AllByRecursion (IsOnOneSide place) (item_tokens text)

-- An edit leaves the line markers, and the line that the next one numbers is not between the two
-- first tokens of an item.
pub record ShiftsLines (old text : List ℕ) (t : LineShift) : Type 0 where
  pub lines : IsLineShift old text t
  pub numbered : AreOnOneSide t.until old

-- An edit shifts all that a text says.
pub record ShiftsAll (edit : Edit) (t : LineShift) : Type 0 where
  pub lines : ShiftsLines edit.old edit.text t
  pub before : ℕ
  pub tokens : AreShifted edit t.by before
  -- the edit is not between the two first tokens of an item either
  pub items : AreOnOneSide t.by.start edit.old
  pub found : All (λ d. IsOutside edit.old t.by d.offset) (diagnostics_of edit.old)

-- Then this is what the new text says, and no item of it is to be checked.
pub record IsShifted (edit : Edit) (t : LineShift) : Type 0 where
  pub entries : entries_of edit.text ≡ entries_of edit.old
  pub links : links_in edit.text ≡ links_in edit.old
  pub checks : checks_of edit.text ≡ checks_of edit.old
  pub warns : warns_in edit.text ≡ warns_in edit.old
  pub found : diagnostics_of edit.text ≡ map (shifted_diagnostic t) (diagnostics_of edit.old)
  pub tables : tables_in edit.text ≡ moved_tables t.by (moved_line t) (tables_in edit.old)
  pub none_stirred : stirred_of edit ≡ 0
