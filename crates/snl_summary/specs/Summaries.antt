-- The summary of an item, from its tokens and its tree; a faulty item has none.
use Rattle.std.specs.Prelude.{ℕ, Bool, true, false, ◌||◌, List, [], length, map, nat_lt, slice_get, Option, Some, None, codes, if◌then◌else◌}
use Rattle.std.specs.Str.{bytes_eq}
use Rattle.snl_lex.specs.declared.piece.Class.{Class}
use Rattle.snl_lex.specs.declared.piece.Class.TheVariants as class
use Rattle.snl_lex.specs.declared.piece.Piece.{Piece}
use Rattle.snl_grammar.specs.declared.tree.item.Item.{Item}
use Rattle.snl_grammar.specs.declared.tree.item.Item.TheVariants as items
use Rattle.snl_summary.specs.declared.summary.ItemKind.{ItemKind}
use Rattle.snl_summary.specs.declared.summary.ItemKind.TheVariants as kinds
use Rattle.snl_summary.specs.declared.summary.Opening.{Opening}
use Rattle.snl_summary.specs.declared.summary.Opening.TheVariants as openings
use Rattle.snl_summary.specs.declared.summary.Outline.{Outline}
use Rattle.snl_summary.specs.declared.summary.Role.{Role}
use Rattle.snl_summary.specs.declared.summary.Role.TheVariants as roles
use Rattle.snl_summary.specs.declared.summary.Summary.{Summary}
use Rattle.snl_summary.specs.Summaries.Clauses.{clauses_in}
use Rattle.snl_summary.specs.Summaries.Declares.{declared_in}
use Rattle.snl_summary.specs.Summaries.Tokens.{name_ref_at}
use Rattle.snl_walk.specs.declared.occurrence.Occurrence.{Occurrence}
use Rattle.snl_walk.specs.Items.{occurrences}
use Rattle.snl_walk.specs.Once.{once}
use Rattle.snl_walk.specs.Tokens.{token_bytes, bytes_of}
use Rattle.snl_walk.specs.Uses.{targets, uses}
pub mod Tokens
pub mod Declares
pub mod Clauses

-- What an item is.
abbrev pub kind_of_tree : Item → ItemKind
kind_of_tree (items.Header name parameters) = kinds.Header
kind_of_tree (items.Definition d) = kinds.Declaration
kind_of_tree (items.Foreign names) = kinds.Foreign
kind_of_tree (items.Clause clause) = kinds.Clause
kind_of_tree (items.OptionLine line) = kinds.OptionLine
kind_of_tree (items.Entry block) = kinds.Entry
kind_of_tree (items.Exit block) = kinds.Exit
kind_of_tree (items.SsBegin name) = kinds.SsBegin
kind_of_tree items.SsEnd = kinds.SsEnd
kind_of_tree (items.StateBlock name ms) = kinds.State
kind_of_tree (items.Function f) = kinds.Function
kind_of_tree (items.StructDef name ms) = kinds.StructDef
kind_of_tree (items.CBlock n) = kinds.CBlock
kind_of_tree items.Empty = kinds.Empty

abbrev pub kind_of : Option Item → ItemKind
kind_of None = kinds.Faulty
kind_of (Some tree) = kind_of_tree tree

-- Whether an item of a kind is an option.
abbrev pub is_option : ItemKind → Bool
is_option kinds.OptionLine = true
is_option _ = false

abbrev pub opening_by_word : List ℕ → Opening
opening_by_word word =
    if bytes_eq word (codes "program") then openings.Program
    else (if bytes_eq word (codes "ss") then openings.Ss else (if bytes_eq word (codes "state") then openings.State else openings.Other))

abbrev pub opening_by : Class → List ℕ → Opening
opening_by class.Word bytes = opening_by_word bytes
opening_by _ bytes = openings.Other

-- The word that an item begins with.
abbrev pub opening_if : List ℕ → Option Piece → Opening
opening_if text None = openings.Other
opening_if text (Some first) = opening_by first.kind (bytes_of text first)

abbrev pub opening_in : List ℕ → List Piece → Opening
opening_in text tokens = opening_if text (slice_get tokens 0)

abbrev pub name_by : Class → List ℕ → Option (List ℕ)
name_by class.Name bytes = Some bytes
name_by _ bytes = None

abbrev pub name_if : List ℕ → Option Piece → Option (List ℕ)
name_if text None = None
name_if text (Some piece) = name_by piece.kind (bytes_of text piece)

-- The second token, if that is a name.
abbrev pub second_in : List ℕ → List Piece → Option (List ℕ)
second_in text tokens = name_if text (slice_get tokens 1)

-- What an item of a kind is to the others, where it is known whether it has declarations or
-- clauses. Only a state that has some is told from other items: a plain one is the same to them
-- while it is faulty.
abbrev pub role_of : ItemKind → Bool → Role
role_of kinds.SsBegin has_some = roles.SetBegin
role_of kinds.SsEnd has_some = roles.SetEnd
role_of kinds.State true = roles.State
role_of _ has_some = roles.Other

abbrev pub role_in : List ℕ → List Piece → Option Item → Role
role_in text tokens tree = role_of (kind_of tree) (nat_lt 0 (length (declared_in text tokens tree)) || nat_lt 0 (length (clauses_in text tokens tree)))

-- What the item that consists of these tokens of the text and has this tree says to the others.
abbrev pub outline_in : List ℕ → List Piece → Option Item → Outline
outline_in text tokens tree = record {
  declares = declared_in text tokens tree;
  clauses = clauses_in text tokens tree;
  second = second_in text tokens;
  role = role_in text tokens tree;
  opening = opening_in text tokens;
}

-- What is found in an item, by the bytes of its tokens; in a faulty one nothing is.
abbrev pub occurrences_in : (ℕ → List ℕ) → Option Item → List Occurrence
occurrences_in bytes None = []
occurrences_in bytes (Some tree) = occurrences bytes tree

-- The summary of the item.
abbrev pub summary_in : List ℕ → List Piece → Option Item → Summary
summary_in text tokens tree = record {
  kind = kind_of tree;
  outline = outline_in text tokens tree;
  uses = once (map (token_bytes text tokens) (uses (occurrences_in (token_bytes text tokens) tree)));
  targets = map (name_ref_at text tokens) (targets (occurrences_in (token_bytes text tokens) tree));
}
