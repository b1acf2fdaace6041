-- The symbols of a text: the program, its state sets, their states, and what items declare; each
-- with its name, its extent and its depth. The items of a text are given by their tokens (xs) and
-- by what each says to the others (ss).
use Rattle.std.specs.Prelude.{ℕ, zero, suc, ◌+◌, ◌-◌, Bool, true, false, List, [], ◌++◌, length, slice_get, Option, Some, None, is_some, option_and_then, option_to_list, if◌then◌else◌}
use Rattle.std.specs.List.{filter_map, prefix_len, range_with_len}
use Rattle.std.specs.Option.{option_map_or}
use Rattle.snl_lex.specs.declared.piece.Piece.{Piece}
use Rattle.snl_summary.specs.declared.summary.Declared.{Declared}
use Rattle.snl_summary.specs.declared.summary.Opening.{Opening}
use Rattle.snl_summary.specs.declared.summary.Opening.TheVariants as opening
use Rattle.snl_summary.specs.declared.summary.Outline.{Outline}
use Rattle.snl_summary.specs.declared.summary.SymbolKind.{SymbolKind}
use Rattle.snl_summary.specs.declared.summary.SymbolKind.TheVariants as symbol_kind
use Rattle.snl_scope.specs.Places.{begins_set, enclosing_set, stands_in}
use Rattle.snl_tables.specs.declared.rows.Span.{Span}
use Rattle.snl_kept.specs.Checks.{outlines_in}
use Rattle.snl_kept.specs.Program.{item_tokens}
use Rattle.snl_questions.specs.Items.{span_at, start_of, stop_of}
use Rattle.snl_questions.specs.declared.document_symbols.symbol.DocumentSymbol.{DocumentSymbol}
use Rattle.snl_questions.specs.declared.document_symbols.symbol.DocumentSymbolKind.{DocumentSymbolKind}
use Rattle.snl_questions.specs.declared.document_symbols.symbol.DocumentSymbolKind.TheVariants as kinds

-- ---- what is a symbol

-- The program and a state begin with a word.
abbrev pub kind_by_opening : Opening → Option DocumentSymbolKind
kind_by_opening opening.Program = Some kinds.Program
kind_by_opening opening.State = Some kinds.State
kind_by_opening _ = None

-- What an item is itself: a state set, which it begins; or the program or a state, where a name
-- follows that word. A faulty item may be one of the last two.
abbrev pub own_kind : Outline → Option DocumentSymbolKind
own_kind s =
    if begins_set s.role then Some kinds.StateSet
    else (if is_some s.second then kind_by_opening s.opening else None)

-- What a declared name is. Of a foreign one the text doesn't say it: it is told as a variable.
abbrev pub declared_kind : SymbolKind → DocumentSymbolKind
declared_kind symbol_kind.EventFlag = kinds.EventFlag
declared_kind symbol_kind.Function = kinds.Function
declared_kind symbol_kind.Foreign = kinds.Variable
declared_kind symbol_kind.Assignable = kinds.Variable
declared_kind symbol_kind.Unassignable = kinds.Variable

-- ---- where it is

-- The bytes from one offset up to another.
abbrev pub span_between : Option ℕ → Option ℕ → Option Span
span_between None stop = None
span_between (Some start) None = None
span_between (Some start) (Some stop) = Some (record { start = start; len = stop - start })

-- How many items after item i are, one after another, in the state set that it begins; the `}` that
-- closes the set is one of them. Where the item begins none, there is none.
abbrev pub count_within : List Outline → ℕ → ℕ
count_within ss i = prefix_len (stands_in ss i) (range_with_len (i + 1) (length ss - (i + 1)))

-- The last of them, or the item itself.
abbrev pub last_within : List Outline → ℕ → ℕ
last_within ss i = i + count_within ss i

-- The extent of item i: its tokens, from the first to the last, and for a state set all up to its
-- last item.
abbrev pub extent_of : List (List Piece) → List Outline → ℕ → Option Span
extent_of xs ss i = span_between (start_of xs i) (stop_of xs (last_within ss i))

-- What is in a state set is one deeper than the set.
abbrev pub depth_in : Option ℕ → ℕ
depth_in None = 0
depth_in (Some set) = 1

abbrev pub depth_of : List Outline → ℕ → ℕ
depth_of ss i = depth_in (enclosing_set ss i)

-- ---- the symbols

-- A symbol, where its name and its extent are there.
abbrev pub symbol_with : DocumentSymbolKind → ℕ → Option Span → Option Span → Option DocumentSymbol
symbol_with kind depth None extent = None
symbol_with kind depth (Some name) None = None
symbol_with kind depth (Some name) (Some extent) =
    Some (record { kind = kind; name = name; extent = extent; depth = depth })

-- The symbol that item i itself is. Its name is its second token.
abbrev pub own_symbol : List (List Piece) → List Outline → ℕ → Outline → Option DocumentSymbol
own_symbol xs ss i s = option_and_then
    (λ kind. symbol_with kind (depth_of ss i) (span_at xs i 1) (extent_of xs ss i))
    (own_kind s)

-- What item i declares. Where the item is a symbol itself, as a state, it is one deeper than that,
-- and its extent is its name; else its extent is the item's.
abbrev pub declared_symbol : List (List Piece) → List Outline → ℕ → Bool → Declared →
    Option DocumentSymbol
declared_symbol xs ss i true d = symbol_with (declared_kind d.variable.symbol_kind)
    (depth_of ss i + 1) (span_at xs i d.token) (span_at xs i d.token)
declared_symbol xs ss i false d = symbol_with (declared_kind d.variable.symbol_kind)
    (depth_of ss i) (span_at xs i d.token) (extent_of xs ss i)

-- The symbols of item i, which says this to the others.
abbrev pub item_symbols : List (List Piece) → List Outline → ℕ → Outline → List DocumentSymbol
item_symbols xs ss i s =
    option_to_list (own_symbol xs ss i s)
    ++ filter_map (declared_symbol xs ss i (is_some (own_symbol xs ss i s))) s.declares

abbrev pub symbols_at : List (List Piece) → List Outline → ℕ → List DocumentSymbol
symbols_at xs ss i = option_map_or (item_symbols xs ss i) (slice_get ss i) []

-- The symbols of the first so many items.
abbrev pub symbols_before : List (List Piece) → List Outline → ℕ → List DocumentSymbol
symbols_before xs ss zero = []
symbols_before xs ss (suc i) = symbols_before xs ss i ++ symbols_at xs ss i

-- The symbols of a text, in its order.
unfoldable pub symbols_of : List ℕ → List DocumentSymbol
symbols_of text = symbols_before (item_tokens text) (outlines_in text) (length (item_tokens text))
