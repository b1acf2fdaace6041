use Rattle.std.proofs.Common.{◌≡◌, ℕ, ◌+◌, ◌-◌, ◌≤◌, List, [], length, drop}
use Rattle.snl_lex.specs.Pieces.{is_taken, string_joins}
use Rattle.snl_lex.specs.Runs.{run_by}
use Rattle.snl_lex.proofs.scan.string_end.Given as goal

abbrev pub invariant-loop-end : goal.invariant-loop-end
invariant-loop-end l = record {
  before : List ℕ;
  counted : 1 + run_by (string_joins l.quote) [] (drop 1 l.bytes) ≡ l.end + run_by (string_joins l.quote) before (drop l.end l.bytes);
  inside : l.end ≤ length l.bytes;
  taken : l.taken ≡ is_taken before;
}

abbrev pub decreases-loop-end : goal.decreases-loop-end
decreases-loop-end l = length l.bytes - l.end
