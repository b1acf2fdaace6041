-- The symbols of a document, each with those that are in it: the answer as JSON and as bytes.
use Rattle.std.specs.Prelude.{◌≤◌, ℕ, suc, List, [], ◌∷◌, ◌++◌, Bool, true, false, nat_lt, if◌then◌else◌, codes, ⊤}
use Rattle.std.specs.List.{concat}
use Rattle.json.specs.Print.{quoted}
use Rattle.serde_json.specs.Data.{Data, array, object, string, number, unsigned, member, no_members, Items, no_items, item}
use Rattle.serde_json.specs.Written.{comma_if, compact_text}
use Rattle.snl_place.specs.declared.places.Place.{Place}
use Rattle.snl_say.specs.Answers.{answer_data}
use Rattle.snl_say.specs.Places.{range_data, range_text}
use Rattle.snl_say.specs.declared.symbols.ShownSymbol.{ShownSymbol}
use Rattle.snl_say.specs.declared.symbols.SymbolKind.{SymbolKind}
use Rattle.snl_say.specs.declared.symbols.SymbolKind.TheVariants.{Program, StateSet, State, Variable, EventFlag, Function}

-- A symbol from a place up to another one, with the bytes of its name.
pub record SymbolFound : Type 0 where
  pub kind : SymbolKind
  pub name : List ℕ
  pub start : Place
  pub stop : Place
  pub name_start : Place
  pub name_stop : Place
  pub depth : ℕ

abbrev pub symbol_of : ShownSymbol → SymbolFound
symbol_of s = record {
  kind = s.kind;
  name = s.name.now;
  start = s.start;
  stop = s.stop;
  name_start = s.name_start;
  name_stop = s.name_stop;
  depth = s.depth;
}

-- ---- which symbols are in which

-- Symbols, each with those that are in it, its children.
pub data Forest : Type 0 where
  no_symbols : Forest
  symbol : SymbolFound → (children : Forest) → (rest : Forest) → Forest

-- The first ones that are deeper than this.
abbrev pub deeper : (depth : ℕ) → Forest → Forest
deeper depth no_symbols = no_symbols
deeper depth (symbol s children rest) =
    if nat_lt depth s.depth then symbol s children (deeper depth rest) else no_symbols

-- All others.
abbrev pub after_deeper : (depth : ℕ) → Forest → Forest
after_deeper depth no_symbols = no_symbols
after_deeper depth (symbol s children rest) =
    if nat_lt depth s.depth then after_deeper depth rest else symbol s children rest

-- A symbol before others: the first ones that are deeper are its children.
abbrev pub with_first : SymbolFound → Forest → Forest
with_first s others = symbol s (deeper s.depth others) (after_deeper s.depth others)

-- Of a list of symbols, whatever their depths are.
abbrev pub forest_of : List SymbolFound → Forest
forest_of [] = no_symbols
forest_of (s ∷ ss) = with_first s (forest_of ss)

-- The symbols, each before its children.
abbrev pub in_order : Forest → List SymbolFound
in_order no_symbols = []
in_order (symbol s children rest) = s ∷ (in_order children ++ in_order rest)

-- The first one is no deeper than this.
abbrev pub BeginsWithin : (depth : ℕ) → Forest → Type 0
BeginsWithin depth no_symbols = ⊤
BeginsWithin depth (symbol s children rest) = s.depth ≤ depth

-- The symbols are this deep at least. The children of a symbol are deeper than it, and the symbol
-- after it that is not among them isn't.
abbrev pub IsNested : (least : ℕ) → Forest → Type 0
IsNested least no_symbols = ⊤
IsNested least (symbol s children rest) =
    (least ≤ s.depth) × IsNested (suc s.depth) children × BeginsWithin s.depth rest
    × IsNested least rest

-- ---- as JSON: the members of an object are in the order of their names

-- The numbers of the protocol: package, namespace, class, variable, event and function.
abbrev pub kind_number : SymbolKind → ℕ
kind_number Program = 4
kind_number StateSet = 3
kind_number State = 5
kind_number Variable = 13
kind_number EventFlag = 24
kind_number Function = 12

abbrev pub symbol_data : SymbolFound → (children : Items) → Data
symbol_data s children =
    object (member (codes "children") (array children)
    (member (codes "kind") (number (unsigned (kind_number s.kind)))
    (member (codes "name") (string s.name)
    (member (codes "range") (range_data s.start s.stop)
    (member (codes "selectionRange") (range_data s.name_start s.name_stop) no_members)))))

abbrev pub forest_data : Forest → Items
forest_data no_symbols = no_items
forest_data (symbol s children rest) =
    item (symbol_data s (forest_data children)) (forest_data rest)

abbrev pub symbols_data : (id : Data) → List SymbolFound → Data
symbols_data id symbols = answer_data id (array (forest_data (forest_of symbols)))

-- ---- as bytes

-- What is before the children of a symbol.
abbrev pub symbol_begin : List ℕ
symbol_begin = codes "{\"children\":["

-- The kind of a symbol, and what is between it and the name.
abbrev pub kind_text : SymbolKind → List ℕ
kind_text Program = codes ",\"kind\":4,\"name\":"
kind_text StateSet = codes ",\"kind\":3,\"name\":"
kind_text State = codes ",\"kind\":5,\"name\":"
kind_text Variable = codes ",\"kind\":13,\"name\":"
kind_text EventFlag = codes ",\"kind\":24,\"name\":"
kind_text Function = codes ",\"kind\":12,\"name\":"

-- What is after the children of a symbol.
unfoldable pub symbol_end : SymbolFound → List ℕ
symbol_end s =
    concat (kind_text s.kind ∷ quoted s.name ∷ codes ",\"range\":" ∷ range_text s.start s.stop
    ∷ codes ",\"selectionRange\":" ∷ range_text s.name_start s.name_stop ∷ codes "}" ∷ [])

-- The symbols, and the closing bracket. `later`: another symbol is before them.
unfoldable pub forest_text : (later : Bool) → Forest → List ℕ
forest_text later no_symbols = codes "]"
forest_text later (symbol s children rest) =
    comma_if later ++ (symbol_begin ++ (forest_text false children
    ++ (symbol_end s ++ forest_text true rest)))

unfoldable pub symbols_text : (id : Data) → List SymbolFound → List ℕ
symbols_text id symbols =
    concat (codes "{\"id\":" ∷ compact_text id ∷ codes ",\"jsonrpc\":\"2.0\",\"result\":["
    ∷ forest_text false (forest_of symbols) ∷ codes "}" ∷ [])
