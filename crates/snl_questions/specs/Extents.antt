-- How symbols lie in one another.
use Rattle.std.specs.Prelude.{◌+◌, ◌≤◌, Bool, nat_lt, List, [], ◌∷◌, All, take_while}
use Rattle.snl_tables.specs.declared.rows.Span.{Span}
use Rattle.snl_questions.specs.declared.document_symbols.symbol.DocumentSymbol.{DocumentSymbol}

-- One span lies within another.
pub record LiesWithin (outer inner : Span) : Type 0 where
  pub start : outer.start ≤ inner.start
  pub stop : inner.start + inner.len ≤ outer.start + outer.len

-- The name of a symbol lies within its extent, and has a byte.
pub record NameLiesWithin (s : DocumentSymbol) : Type 0 where
  pub within : LiesWithin s.extent s.name
  pub some : 1 ≤ s.name.len

-- A symbol is deeper than another one.
abbrev pub is_deeper : DocumentSymbol → DocumentSymbol → Bool
is_deeper s x = nat_lt s.depth x.depth

-- What belongs to each symbol lies within its extent: the symbols that follow it and are deeper, up
-- to the first that isn't.
abbrev pub ChildrenLieWithin : List DocumentSymbol → Type 0
ChildrenLieWithin [] = Unit {0}
ChildrenLieWithin (s ∷ rest) =
    All (λ x. LiesWithin s.extent x.extent) (take_while (is_deeper s) rest)
    × ChildrenLieWithin rest
