-- What is found by the links of the items of a text, each finding at a token of an item.
use Rattle.std.specs.Prelude.{ℕ, List, map, slice_get, Option, Some, None, option_and_then}
use Rattle.snl_lex.specs.declared.piece.Piece.{Piece}
use Rattle.snl_codes.specs.declared.code.Code.{Code}
use Rattle.snl_codes.specs.Codes.{quoted_bytes}
use Rattle.snl_scope.specs.declared.facts.LinkFault.{LinkFault}
use Rattle.snl_scope.specs.Linked as links
use Rattle.snl_kept.specs.declared.found.findings.Finding.{Finding}
pub use Rattle.snl_item_check.specs.Items.{linked_of, outlines_of, summaries_of}
use Rattle.snl_kept.specs.Program.{ProgramItem}

-- A finding at a token. One of what is missing altogether has none, and is at the text's beginning.
abbrev pub finding_at : Code → Option Piece → Finding
finding_at code None = record { offset = 0; code = code; subject = 0 }
finding_at code (Some token) = record { offset = token.start; code = code; subject = quoted_bytes code token.len }

-- The token of an item by the number of the item and its own number in it.
abbrev pub token_of : List ProgramItem → ℕ → ℕ → Option Piece
token_of xs item number = option_and_then (λ x. slice_get x.tokens number) (slice_get xs item)

-- A finding of the links, at its token.
abbrev pub linked_finding : List ProgramItem → LinkFault → Finding
linked_finding xs fault = finding_at fault.code (token_of xs fault.item fault.token)

-- What is found by the links of the items of a text.
abbrev pub linked_faults : List ℕ → List ProgramItem → List Finding
linked_faults text xs = map (linked_finding xs) (links.faults_of (linked_of text xs))
