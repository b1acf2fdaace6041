-- What the parser makes of an item. It goes by the item's tokens as they are spelled, wherever they
-- are.
use Rattle.std.specs.Prelude.{ℕ, ◌<◌, Bool, List, map, position, Option, Some, None}
use Rattle.snl_lex.specs.declared.piece.Class.{Class}
use Rattle.snl_lex.specs.declared.piece.Piece.{Piece}
use Rattle.snl_lex.specs.declared.kind.Kind.{Kind}
use Rattle.snl_grammar.specs.declared.outcome.Parsed.{Parsed}
use Rattle.snl_grammar.specs.declared.outcome.Parsed.TheVariants as parsed
use Rattle.snl_grammar.specs.declared.tree.item.Item.{Item}
use Rattle.snl_lex.specs.Kinds.{kind_of}
use Rattle.snl_grammar.specs.Parsing.{is_bad, is_bad_class, kinds_in}
use Rattle.snl_grammar.specs.Reading.Items.{fault_of, item_of}

-- The tree, where there is one; else the token with this number is blamed.
abbrev pub outcome_by_tree : Option Item → ℕ → Parsed
outcome_by_tree (Some tree) blamed = parsed.Sound tree
outcome_by_tree None blamed = parsed.NoItem blamed

-- The first faulty token counts, where there is one; else what the grammar has for the tokens.
abbrev pub outcome_of : Option ℕ → List Kind → Parsed
outcome_of (Some bad) kinds = parsed.BadToken bad
outcome_of None kinds = outcome_by_tree (item_of kinds) (fault_of kinds)

abbrev pub parsed_in : List ℕ → List Piece → Parsed
parsed_in text tokens = outcome_of (position is_bad tokens) (kinds_in text tokens)

-- What a token is to the grammar, and whether it is faulty, by its class and its bytes.
abbrev pub kind_by : Class × List ℕ → Kind
kind_by token = kind_of token.0 token.1

abbrev pub is_bad_by : Class × List ℕ → Bool
is_bad_by token = is_bad_class token.0

-- The same as `parsed_in`, for tokens as they are spelled.
abbrev pub parsed_by : List (Class × List ℕ) → Parsed
parsed_by tokens = outcome_of (position is_bad_by tokens) (map kind_by tokens)

abbrev pub sound_tree : Parsed → Option Item
sound_tree (parsed.Sound tree) = Some tree
sound_tree _ = None

-- A token that is named as faulty or blamed is one of so many.
abbrev pub BlamesWithin : ℕ → Parsed → Type 0
BlamesWithin count (parsed.Sound tree) = Unit {0}
BlamesWithin count (parsed.BadToken at) = at < count
BlamesWithin count (parsed.NoItem at) = at < count
