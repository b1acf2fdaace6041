use Rattle.std.proofs.Common.{◌≡◌, take, map}
use Rattle.snl_kept.specs.Diagnostics.{diagnostic}
use Rattle.snl_kept.proofs.found.diagnose.on_lines.Given as goal

abbrev pub invariant-loop-finding : goal.invariant-loop-finding
invariant-loop-finding l = l.diagnostics.items ≡ map (diagnostic l.text) (take l.finding-index l.found)
