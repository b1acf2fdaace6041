use Rattle.std.proofs.Common.{◌≡◌, ◌++◌, drop, false, map}
use Rattle.snl_say.specs.Parents.{innermost_first}
use Rattle.snl_say.specs.Symbols.{forest_of, forest_text, symbol_of}
use Rattle.snl_say.proofs.ParentSteps.{left_text}
use Rattle.snl_say.proofs.symbols.put_forest.Given as goal

abbrev pub invariant-loop-symbol : goal.invariant-loop-symbol
invariant-loop-symbol l =
    l.out.items ++ left_text false (innermost_first l.parents.items)
    (forest_of (map symbol_of (drop l.symbol-index l.all)))
    ≡ l.initial.out.items ++ forest_text false (forest_of (map symbol_of l.all))
