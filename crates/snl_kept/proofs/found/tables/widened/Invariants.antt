use Rattle.std.proofs.Common.{◌≡◌, take}
use Rattle.snl_kept.proofs.found.tables.widened.Given as goal

abbrev pub invariant-loop-end : goal.invariant-loop-end
invariant-loop-end l = l.wide.items ≡ take l.end-index l.ends
