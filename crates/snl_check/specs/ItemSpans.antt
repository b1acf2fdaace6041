-- Where the tokens of the items of a text are, and the names that they have there.
use Rattle.std.specs.Prelude.{ℕ, List, [], ◌∷◌, slice_get, Option, None, Some, option_map}
use Rattle.std.specs.Option.{option_or}
use Rattle.snl_lex.specs.declared.piece.Piece.{Piece}
use Rattle.snl_grammar.specs.declared.tree.item.Item.{Item}
use Rattle.snl_grammar.specs.declared.tree.item.Item.TheVariants as items
use Rattle.snl_tables.specs.declared.rows.Span.{Span}
use Rattle.snl_item_check.specs.Items.{ProgramItem, tokens_in}

-- Where a token is. A token that isn't there is nowhere, with no bytes.
abbrev pub span_of : Option Piece → Span
span_of None = record { start = 0; len = 0 }
span_of (Some p) = record { start = p.start; len = p.len }

-- Where a token of an item is, by the number of the item and its own number in it.
abbrev pub span_at : List ProgramItem → ℕ → ℕ → Span
span_at xs item number = span_of (slice_get (tokens_in xs item) number)

-- A state set and a state are named by the second token of their item.
abbrev pub item_name : List ProgramItem → ℕ → Span
item_name xs item = span_at xs item 1

-- Where an item begins.
abbrev pub item_start : List ProgramItem → ℕ → ℕ
item_start xs item = (span_at xs item 0).start

-- The token that names a program.
abbrev pub named_by : Option Item → Option ℕ
named_by (Some (items.Header name parameters)) = Some name
named_by _ = None

-- Where the name of a program is, if the item is a header.
abbrev pub header_name : ProgramItem → Option Span
header_name x = option_map (λ number. span_of (slice_get x.tokens number)) (named_by x.tree)

-- Where the name of the program is: that of the first header that isn't faulty.
abbrev pub program_name : List ProgramItem → Option Span
program_name [] = None
program_name (x ∷ xs) = option_or (header_name x) (program_name xs)
