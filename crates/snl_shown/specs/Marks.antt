-- The places of a symbol.
use Rattle.snl_shown.specs.Sources.{IsMark}
use Rattle.snl_shown.specs.declared.source.Source.{Source}
use Rattle.snl_shown.specs.declared.symbols.SymbolMarks.{SymbolMarks}

-- Each of them is one.
pub record AreMarks (s : Source) (marks : SymbolMarks) : Type 0 where
  pub start : IsMark s marks.start
  pub stop : IsMark s marks.stop
  pub name_start : IsMark s marks.name_start
  pub name_stop : IsMark s marks.name_stop
