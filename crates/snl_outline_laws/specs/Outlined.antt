-- What is in an outline.
use Rattle.std.specs.Prelude.{◌≡◌, List, Contains}
use Rattle.snl_tables.specs.declared.rows.Span.{Span}
use Rattle.snl_questions.specs.declared.document_symbols.symbol.DocumentSymbol.{DocumentSymbol}
use Rattle.snl_questions.specs.declared.document_symbols.symbol.DocumentSymbolKind.{DocumentSymbolKind}

-- A symbol of this kind, with the name at this span, is among them.
abbrev pub HasSymbol : List DocumentSymbol → DocumentSymbolKind → (name : Span) → Type 0
HasSymbol symbols kind name =
    (s : DocumentSymbol) × Contains symbols s × (s.kind ≡ kind) × (s.name ≡ name)
