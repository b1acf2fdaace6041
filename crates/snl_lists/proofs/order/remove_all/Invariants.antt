use Rattle.std.proofs.Common.{take}
use Rattle.snl_lists.specs.Keyed.{KeepsOthers}
use Rattle.snl_lists.proofs.order.remove_all.Given as goal

abbrev pub invariant-loop-key : goal.invariant-loop-key
invariant-loop-key g l = KeepsOthers l.initial.kept l.kept (take l.key-index l.keys)
