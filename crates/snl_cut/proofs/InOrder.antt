-- Ends that rise: none is after the last one, and there are no more of them than places.
use Rattle.std.proofs.Common.{ℕ, zero, suc, ◌+◌, ◌<◌, ◌≤◌, List, [], ◌∷◌, length, get_or, arith}
use Rattle.snl_cut.specs.Cut.{Rises, last_end}
use Rattle.snl_cut.specs.CutLaws.{rises_last}

pub rises_under : (from : ℕ) (ends : List ℕ) (i : ℕ) → Rises from ends → i < length ends → get_or ends i 0 ≤ last_end from ends
rises_under from [] i r lt = absurd (omega arith)
rises_under from (e ∷ es) zero r lt = rises_last e es r.1
rises_under from (e ∷ es) (suc i) r lt = rises_under e es i r.1 (omega arith)

pub rises_few : (from : ℕ) (ends : List ℕ) → Rises from ends → from + length ends ≤ last_end from ends
rises_few from [] r = omega arith
rises_few from (e ∷ es) r = omega (arith, r.0, rises_few e es r.1)
