use Rattle.std.proofs.Common.{◌≡◌, ◌≤◌, length, map, take, vec_len, vec_capacity}
use Rattle.snl_kept.specs.Diagnostics.{diagnostic}
use Rattle.snl_kept.proofs.found.diagnose.put_on_lines.Given as goal

abbrev pub invariant-loop-finding : goal.invariant-loop-finding
invariant-loop-finding l = record {
  lines : l.found.items ≡ map (diagnostic l.text) (take l.finding-index l.findings);
  count : vec_len l.found ≡ l.finding-index;
  room : length l.findings ≤ vec_capacity l.found;
}
