-- The ends of a cut are in order, and none after the list.
use Rattle.std.proofs.Common.{arith, ◌≡◌, ℕ, ◌+◌, ◌-◌, ◌<◌, List, [], ◌∷◌, length, drop, length-drop}
use Rattle.snl_cut.specs.Cut.{IsFront, Walks}
use Rattle.snl_kept.specs.Parts.{EndsWithin}
use Rattle.snl_facts.specs.Lists.{some_left}

pub ends_within : {X : Type 0} (first : List X → ℕ) → IsFront first → (units : List X) (from : ℕ) (ends : List ℕ) (to : ℕ) → Walks first units from ends to → EndsWithin from ends (length units)
ends_within first front units from [] to walks = tt
ends_within first front units from (e ∷ es) to walks =
    let bounds = front (drop from units) (some_left units from walks.0) in
    let long : length (drop from units) ≡ length units - from = length-drop from units in
    let within : from < length units = walks.0 in
    let is : e ≡ from + first (drop from units) = walks.1 in
    (omega (arith, bounds.0), omega (arith, bounds.1), ends_within first front units e es to walks.2)
