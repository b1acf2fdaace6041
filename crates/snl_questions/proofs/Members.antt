-- The members of a cut: the one with a number, by where it begins and ends.
use Rattle.std.proofs.Common.{◌≡◌, ℕ, zero, suc, ◌-◌, ◌<◌, ◌≤◌, List, [], ◌∷◌, length, get_or, take, drop, slice_get, Some, None, refl, ap₂, sym, ◌∙◌, arith}
use Rattle.snl_cut.specs.Cut.{Rises, last_end, members}

-- each member begins where the one before it ends
member_at : {X : Type 0} (units : List X) (from : ℕ) (ends : List ℕ) (i : ℕ) → i < length ends →
    slice_get (members units from ends) i ≡
    Some (take (get_or ends i 0 - last_end from (take i ends))
    (drop (last_end from (take i ends)) units))
member_at units from [] i within = absurd (omega arith)
member_at units from (e ∷ es) zero within = refl
member_at units from (e ∷ es) (suc i) within = member_at units e es i (omega arith)

pub member_is : {X : Type 0} (units : List X) (ends : List ℕ) (i start stop : ℕ) →
    i < length ends → start ≡ last_end 0 (take i ends) → stop ≡ get_or ends i 0 →
    Some (take (stop - start) (drop start units)) ≡ slice_get (members units 0 ends) i
member_is units ends i start stop within begins stops =
    ap₂ (λ (a b : ℕ). Some (take (b - a) (drop a units))) begins stops
    ∙ sym (member_at units 0 ends i within)

pub no_member : {X : Type 0} (units : List X) (from : ℕ) (ends : List ℕ) (i : ℕ) →
    length ends ≤ i → slice_get (members units from ends) i ≡ None
no_member units from [] i past = refl
no_member units from (e ∷ es) zero past = absurd (omega arith)
no_member units from (e ∷ es) (suc i) past = no_member units e es i (omega arith)

pub begins_below : (from : ℕ) (ends : List ℕ) (i : ℕ) → Rises from ends → i < length ends →
    last_end from (take i ends) < get_or ends i 0
begins_below from [] i rise within = absurd (omega arith)
begins_below from (e ∷ es) zero rise within = rise.0
begins_below from (e ∷ es) (suc i) rise within = begins_below e es i rise.1 (omega arith)
