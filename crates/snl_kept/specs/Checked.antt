-- What is found in each item by itself, by its tokens, its tree and what the links say of the names
-- in it.
use Rattle.std.specs.Prelude.{ℕ, ◌+◌, ◌^◌, ◌<◌, List, [], map, flat_map, slice_get, Option, Some, None}
use Rattle.std.specs.List.{enumerate_from}
use Rattle.snl_lex.specs.declared.piece.Piece.{Piece}
use Rattle.snl_summary.specs.declared.summary.Outline.{Outline}
use Rattle.snl_item_check.specs.declared.findings.Checked.{Checked}
use Rattle.snl_item_check.specs.declared.findings.ItemFault.{ItemFault}
use Rattle.snl_kept.specs.declared.found.findings.Finding.{Finding}
use Rattle.snl_kept.specs.Checks.{check_of_item}
use Rattle.snl_kept.specs.Linked.{finding_at, outlines_of}
use Rattle.snl_kept.specs.Program.{ProgramItem}

-- What the check of an item has found. A faulty item has no check.
abbrev pub faults_kept : Option Checked → List ItemFault
faults_kept None = []
faults_kept (Some c) = c.faults

-- A finding some bytes further on.
abbrev pub moved : ℕ → Finding → Finding
moved bytes x = record { offset = x.offset + bytes; code = x.code; subject = x.subject }

-- A finding of an item, at its byte in its token.
abbrev pub at_own_token : List Piece → ItemFault → Finding
at_own_token tokens fault = moved fault.byte (finding_at fault.code (slice_get tokens fault.token))

-- Its place is an offset that the machine can hold.
abbrev pub HasOffset : List Piece → ItemFault → Type 0
HasOffset tokens fault = (at_own_token tokens fault).offset < 2 ^ 64

abbrev pub found_in_item : List ℕ → List Outline → ℕ × ProgramItem → List Finding
found_in_item text ss (i, x) = map (at_own_token x.tokens) (faults_kept (check_of_item text ss (i, x)))

-- What is found in the items of a text.
abbrev pub checked_faults : List ℕ → List ProgramItem → List Finding
checked_faults text xs = flat_map (found_in_item text (outlines_of text xs)) (enumerate_from 0 xs)
