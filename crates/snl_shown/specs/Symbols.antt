-- The symbols of a text, as they are shown.
use Rattle.std.specs.Prelude.{ℕ, List, map}
use Rattle.snl_place.specs.declared.places.Encoding.{Encoding}
use Rattle.snl_script.specs.Parts.{slice_of}
use Rattle.snl_questions.specs.declared.document_symbols.symbol.DocumentSymbol.{DocumentSymbol}
use Rattle.snl_questions.specs.declared.document_symbols.symbol.DocumentSymbolKind.{DocumentSymbolKind}
use Rattle.snl_questions.specs.declared.document_symbols.symbol.DocumentSymbolKind.TheVariants as symbol
use Rattle.snl_questions.specs.Symbols.{symbols_of}
use Rattle.snl_say.specs.declared.symbols.SymbolKind.{SymbolKind}
use Rattle.snl_say.specs.declared.symbols.SymbolKind.TheVariants as shown
use Rattle.snl_say.specs.Symbols.{SymbolFound}
use Rattle.snl_shown.specs.Spans.{start_of, stop_of}

abbrev pub kind_of : DocumentSymbolKind → SymbolKind
kind_of symbol.Program = shown.Program
kind_of symbol.StateSet = shown.StateSet
kind_of symbol.State = shown.State
kind_of symbol.Variable = shown.Variable
kind_of symbol.EventFlag = shown.EventFlag
kind_of symbol.Function = shown.Function

-- A symbol as it is shown: its name, and the places between which it and its name are.
abbrev pub symbol_at : Encoding → (text : List ℕ) → DocumentSymbol → SymbolFound
symbol_at encoding text s = record {
  kind = kind_of s.kind;
  name = slice_of text s.name.start s.name.len;
  start = start_of encoding text s.extent;
  stop = stop_of encoding text s.extent;
  name_start = start_of encoding text s.name;
  name_stop = stop_of encoding text s.name;
  depth = s.depth;
}

-- The symbols of a text, in its order.
abbrev pub symbols_in : Encoding → (text : List ℕ) → List SymbolFound
symbols_in encoding text = map (symbol_at encoding text) (symbols_of text)
