-- Where items end, among numbers that rise.
use Rattle.std.proofs.Common.{◌≡◌, ℕ, zero, suc, ◌+◌, ◌<◌, ◌≤◌, ◌^◌, All, List, [], ◌∷◌, ◌++◌, length, take, drop, get_or, sym, arith, length-drop}
use Rattle.std.proofs.lemmas.List.{get_or-drop}
use Rattle.std.proofs.lemmas.List.Elements.{All-from_get_or}
use Rattle.snl_cut.specs.Cut.{Rises, last_end}
use Rattle.snl_items.proofs.Parts.{all_middle}
use Rattle.snl_cut.specs.CutLaws.{rises_at}

-- The ends from one number on are greater than the one before them.
pub ends_above : (from : ℕ) (ends : List ℕ) (k i : ℕ) → Rises from ends → i < length (drop k ends) → last_end from (take k ends) < get_or (drop k ends) i 0
ends_above from ends zero i r lt = rises_at from ends i r lt
ends_above from [] (suc k) i r lt = absurd (omega arith)
ends_above from (e ∷ es) (suc k) i r lt = ends_above e es k i r.1 lt

-- A bound of all ends, also of those from one number on.
pub dropped_within : (ends : List ℕ) (limit k i : ℕ) → ((j : ℕ) → j < length ends → get_or ends j 0 ≤ limit) → i < length (drop k ends) → get_or (drop k ends) i 0 ≤ limit
dropped_within ends limit k i h lt =
    let there : get_or (drop k ends) i 0 ≡ get_or ends (k + i) 0 = get_or-drop k ends i 0 in
    omega (arith, there, h (k + i) (omega (arith, length-drop k ends)))

-- Made ends are among all.
pub made_within : (front made back all : List ℕ) (limit : ℕ) → (front ++ made) ++ back ≡ all → ((j : ℕ) → j < length all → get_or all j 0 ≤ limit) → limit < 2 ^ 32 → All (λ e. e < 2 ^ 32) made
made_within front made back all limit e h small =
    all_middle (λ e. e < 2 ^ 32) front made back all (sym e) (All-from_get_or (λ e. e < 2 ^ 32) all 0 (λ i lt. omega (arith, h i lt)))

pub all_within : (ends : List ℕ) (limit : ℕ) → ((j : ℕ) → j < length ends → get_or ends j 0 ≤ limit) → limit < 2 ^ 32 → All (λ e. e < 2 ^ 32) ends
all_within ends limit h small = All-from_get_or (λ e. e < 2 ^ 32) ends 0 (λ i lt. omega (arith, h i lt))
