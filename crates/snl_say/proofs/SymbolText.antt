-- The bytes of symbols are the text of the value.
use Rattle.std.specs.Prelude.{codes}
use Rattle.std.proofs.Common.{◌≡◌, ◌∙◌, ℕ, Bool, true, false, List, ◌++◌, refl, ap, ap₂, append_assoc}
use Rattle.std.specs.Fmt.{digits}
use Rattle.json.proofs.OnLiterals.{json_on_literals}
use Rattle.serde_json.specs.Data.{Data, Items}
use Rattle.serde_json.specs.Written.{comma_if, compact_text, items_text as items_written}
use Rattle.snl_place.specs.declared.places.Place.{Place}
use Rattle.snl_say.specs.Places.{place_text, range_text}
use Rattle.snl_say.specs.Symbols.{Forest, no_symbols, symbol, SymbolFound, forest_data, forest_of, forest_text, symbol_begin, symbol_data, symbol_end, symbols_data, symbols_text}
use Rattle.snl_say.specs.declared.symbols.SymbolKind.{SymbolKind}
use Rattle.snl_say.specs.declared.symbols.SymbolKind.TheVariants.{Program, StateSet, State, Variable, EventFlag, Function}

-- a symbol by its parts, so that its kind is a case
abbrev symbol_by : (kind : SymbolKind) (name : List ℕ) (start stop name_start name_stop : Place)
    (depth : ℕ) → SymbolFound
symbol_by kind name start stop name_start name_stop depth = record {
  kind = kind;
  name = name;
  start = start;
  stop = stop;
  name_start = name_start;
  name_stop = name_stop;
  depth = depth;
}

symbol_parts : (kind : SymbolKind) (name : List ℕ) (start stop name_start name_stop : Place)
    (depth : ℕ) (children : Items) →
    compact_text (symbol_data (symbol_by kind name start stop name_start name_stop depth) children)
    ≡ symbol_begin ++ (items_written false children
    ++ symbol_end (symbol_by kind name start stop name_start name_stop depth))
unfolding json_on_literals digits place_text range_text symbol_end
symbol_parts Program name start stop name_start name_stop depth children = refl
symbol_parts StateSet name start stop name_start name_stop depth children = refl
symbol_parts State name start stop name_start name_stop depth children = refl
symbol_parts Variable name start stop name_start name_stop depth children = refl
symbol_parts EventFlag name start stop name_start name_stop depth children = refl
symbol_parts Function name start stop name_start name_stop depth children = refl

symbol_same : (s : SymbolFound) (children : Items) →
    compact_text (symbol_data s children)
    ≡ symbol_begin ++ (items_written false children ++ symbol_end s)
symbol_same s children =
    symbol_parts s.kind s.name s.start s.stop s.name_start s.name_stop s.depth children

forest_same : (later : Bool) (o : Forest) →
    items_written later (forest_data o) ≡ forest_text later o
unfolding forest_text
forest_same later no_symbols = refl
forest_same later (symbol s children rest) =
    let within = items_written false (forest_data children) in
    let after = items_written true (forest_data rest) in
    ap (λ (l : List ℕ). comma_if later ++ (l ++ after)) (symbol_same s (forest_data children))
    ∙ ap (λ (l : List ℕ). comma_if later ++ (symbol_begin ++ l))
    (append_assoc within (symbol_end s) after)
    ∙ ap₂ (λ (x y : List ℕ). comma_if later ++ (symbol_begin ++ (x ++ (symbol_end s ++ y))))
    (forest_same false children) (forest_same true rest)

pub symbols_same : (id : Data) (symbols : List SymbolFound) →
    compact_text (symbols_data id symbols) ≡ symbols_text id symbols
unfolding json_on_literals symbols_text
symbols_same id symbols =
    ap (λ (l : List ℕ). codes "{\"id\":" ++ (compact_text id
    ++ (codes ",\"jsonrpc\":\"2.0\",\"result\":[" ++ (l ++ codes "}"))))
    (forest_same false (forest_of symbols))
