-- The items of a text after an edit that shifts their tokens, and changes nothing else of them.
use Rattle.std.specs.Prelude.{ℕ, ◌||◌, Bool, is_some, List, map, slice_get}
use Rattle.snl_lex.specs.declared.piece.Piece.{Piece}
use Rattle.snl_lex.specs.declared.shift.Shift.{Shift}
use Rattle.snl_lex.specs.Shift.{shifted_piece}
use Rattle.snl_summary.specs.declared.summary.Outline.{Outline}
use Rattle.snl_scope.specs.Order.{state_name}
use Rattle.snl_scope.specs.Places.{begins_set}
use Rattle.snl_item_check.specs.Items.{ProgramItem}
use Rattle.snl_check.specs.ItemSpans.{span_of}

abbrev pub shifted_tokens : Shift → List Piece → List Piece
shifted_tokens s tokens = map (shifted_piece s) tokens

abbrev pub shifted_item : Shift → ProgramItem → ProgramItem
shifted_item s x = record { tokens = shifted_tokens s x.tokens; tree = x.tree }

-- Where a token begins.
abbrev pub start_at : List Piece → ℕ → ℕ
start_at tokens number = (span_of (slice_get tokens number)).start

-- An item with a row that has its line: it begins a state set, or is a state with a name.
abbrev pub has_line : Outline → Bool
has_line o = begins_set o.role || is_some (state_name o)
