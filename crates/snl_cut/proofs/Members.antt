-- The members of a cut, one after another, are its units, and each is as long as the front says.
use Rattle.std.proofs.Common.{◌≡◌, ℕ, ◌+◌, ◌-◌, List, [], ◌∷◌, ◌++◌, length, drop, take, sym, ap, ◌∙◌, arith}
use Rattle.std.proofs.lemmas.List.{take-append-drop, drop_all, drop-drop, length-take-le}
use Rattle.snl_cut.specs.Cut.{IsFront, Walks, members, in_a_row, EachFirst}
use Rattle.snl_facts.specs.Lists.{some_left}

pub row_from : {X : Type 0} (first : List X → ℕ) → IsFront first → (units : List X) (from : ℕ) (ends : List ℕ)
    → Walks first units from ends (length units) → in_a_row (members units from ends) ≡ drop from units
row_from first front units from [] w = sym (drop_all from units (omega arith))
row_from {X} first front units from (e ∷ es) w =
    let some = front (drop from units) (some_left units from w.0) in
    let place : from + (e - from) ≡ e = omega (arith, w.1) in
    let there : drop (e - from) (drop from units) ≡ drop e units = drop-drop (e - from) from units ∙ ap (λ (n : ℕ). drop n units) place in
    ap (λ (l : List X). take (e - from) (drop from units) ++ l) (row_from first front units e es w.2 ∙ sym there) ∙ take-append-drop (e - from) (drop from units)

pub each_from : {X : Type 0} (first : List X → ℕ) → IsFront first → (units : List X) (from : ℕ) (ends : List ℕ)
    → Walks first units from ends (length units) → EachFirst first (members units from ends)
each_from first front units from [] w = tt
each_from {X} first front units from (e ∷ es) w =
    let some = front (drop from units) (some_left units from w.0) in
    let row : take (e - from) (drop from units) ++ in_a_row (members units e es) ≡ drop from units = row_from first front units from (e ∷ es) w in
    let long : length (take (e - from) (drop from units)) ≡ e - from = length-take-le (e - from) (drop from units) (omega (arith, w.1, some.1)) in
    let size : e - from ≡ first (drop from units) = omega (arith, w.1) in
    (omega (arith, long, size, some.0), long ∙ size ∙ ap first (sym row), each_from first front units e es w.2)
