use Rattle.std.proofs.Common.{◌≡◌, ◌≤◌}
use Rattle.std.specs.Fmt.Cut.{floor_char_boundary}
use Rattle.snl_questions.proofs.hovers.declarations.floor_char_boundary.Given as goal

-- no character begins after this place
abbrev pub invariant-loop-place : goal.invariant-loop-place
invariant-loop-place l =
    (l.place ≤ l.index) × (floor_char_boundary l.bytes l.place ≡ floor_char_boundary l.bytes l.index)

abbrev pub decreases-loop-place : goal.decreases-loop-place
decreases-loop-place l = l.place
