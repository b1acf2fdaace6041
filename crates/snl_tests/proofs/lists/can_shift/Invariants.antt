use Rattle.std.proofs.Common.{ℕ, ◌<◌, ◌≤◌, get_or}
use Rattle.snl_tests.proofs.lists.can_shift.Given as goal

abbrev pub invariant-loop-place : goal.invariant-loop-place
invariant-loop-place l = record {
  after : (i : ℕ) → i < l.place-index → l.old_stop ≤ get_or l.places i 0;
  small : (i : ℕ) → i < l.place-index → get_or l.places i 0 < 1000;
}
