use Rattle.std.proofs.Common.{take}
use Rattle.snl_scope.specs.OutlineList.{AddsDeclared, Extends}
use Rattle.snl_scope.proofs.outlines.making.add_declared.Given as goal

-- the declarations so far are added
abbrev pub invariant-loop-declared : goal.invariant-loop-declared
invariant-loop-declared l = record {
  names : Extends l.initial.names l.names;
  added : AddsDeclared l.names l.initial.flat.items l.flat.items (take l.declared-index l.declares);
}
