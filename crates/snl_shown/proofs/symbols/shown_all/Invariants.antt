use Rattle.std.proofs.Common.{◌≡◌, map, take}
use Rattle.snl_say.specs.Symbols.{symbol_of}
use Rattle.snl_shown.specs.Symbols.{symbol_at}
use Rattle.snl_shown.specs.Marks.{AreMarks}
use Rattle.snl_shown.proofs.symbols.shown_all.Given as goal

abbrev pub invariant-loop-symbol : goal.invariant-loop-symbol
invariant-loop-symbol l = record {
  marks : AreMarks l.source l.marks;
  shown : map symbol_of l.shown.items
      ≡ map (symbol_at l.source.encoding l.source.text.now) (take l.symbol-index l.symbols);
}
