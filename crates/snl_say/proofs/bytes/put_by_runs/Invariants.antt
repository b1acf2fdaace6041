use Rattle.std.proofs.Common.{◌≡◌, ◌++◌, ◌-◌, ◌≤◌, drop, length}
use Rattle.json.specs.Print.{escape}
use Rattle.snl_say.proofs.bytes.put_by_runs.Given as goal

abbrev pub invariant-loop-out : goal.invariant-loop-out
invariant-loop-out l =
    (l.start ≤ length l.bytes)
    × (l.out.items ++ escape (drop l.start l.bytes) ≡ l.initial.out.items ++ escape l.bytes)

abbrev pub decreases-loop-out : goal.decreases-loop-out
decreases-loop-out l = length l.bytes - l.start
