-- A small front: the first unit of a member says how many more it has.
use Rattle.std.specs.Prelude.{◌≡◌, ℕ, suc, List, [], ◌∷◌, length, take, min}
use Rattle.std.proofs.Common.{ap, ◌∙◌, sym, arith, add-one}
use Rattle.std.proofs.lemmas.List.{length-take}
use Rattle.snl_cut.specs.Cut.{IsFront, IsLocal}

-- The first unit and as many after it as it says, or all.
abbrev pub counted : List ℕ → ℕ
counted [] = 0
counted (x ∷ xs) = suc (min x (length xs))

pub counted_front : IsFront counted
counted_front [] h = absurd (omega arith)
counted_front (x ∷ xs) h = (omega arith, omega arith)

pub counted_local : IsLocal counted
counted_local [] v h e = absurd (omega arith)
counted_local (x ∷ xs) [] h e = let k = rw add-one at e in cc
counted_local (x ∷ xs) (y ∷ ys) h e =
    let k : x ∷ take (suc (min x (length xs))) xs ≡ y ∷ take (suc (min x (length xs))) ys = rw add-one at e in
    let same : x ≡ y = cc in
    let rest : take (suc (min x (length xs))) xs ≡ take (suc (min x (length xs))) ys = cc in
    let long : min (suc (min x (length xs))) (length xs) ≡ min (suc (min x (length xs))) (length ys) =
    sym (length-take (suc (min x (length xs))) xs) ∙ ap length rest ∙ length-take (suc (min x (length xs))) ys in
    omega (arith, same, long)
