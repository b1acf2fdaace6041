-- Replacements that follow one another: they lie in the text, and where they start and stop rises.
use Rattle.std.proofs.Common.{ℕ, zero, suc, ◌<◌, ◌≤◌, List, [], ◌∷◌, length, get_or, arith}
use Rattle.std.specs.List.Sorted.{IsNonDecreasingBy}
use Rattle.snl_alike.specs.declared.replacement.Replacement.{Replacement}
use Rattle.snl_alike.specs.Edits.{Edit, Rise, edits_of}

pub within : (base end : ℕ) (es : List Edit) → Rise base end es → base ≤ end
within base end [] rise = rise
within base end (e ∷ es) rise = omega (arith, rise.0, rise.1, within e.stop end es rise.2)

above : (base end : ℕ) (rs : List Replacement) (i : ℕ) (d : Replacement) →
    Rise base end (edits_of rs) → i < length rs →
    (base ≤ (get_or rs i d).start) × ((get_or rs i d).start ≤ (get_or rs i d).stop)
above base end [] i d rise inside = absurd (omega (arith, inside))
above base end (r ∷ rs) zero d rise inside = (rise.0, rise.1)
above base end (r ∷ rs) (suc i) d rise inside =
    let further = above r.stop end rs i d rise.2 (omega (arith, inside)) in
    (omega (arith, rise.0, rise.1, further.0), further.1)

pub starts_rise : (base end : ℕ) (rs : List Replacement) → Rise base end (edits_of rs) →
    IsNonDecreasingBy (λ (r : Replacement). r.start) rs
starts_rise base end [] rise i j d le inside = absurd (omega (arith, inside))
starts_rise base end (r ∷ rs) rise zero zero d le inside = omega arith
starts_rise base end (r ∷ rs) rise zero (suc j) d le inside =
    let next = above r.stop end rs j d rise.2 (omega (arith, inside)) in
    omega (arith, rise.1, next.0)
starts_rise base end (r ∷ rs) rise (suc i) zero d le inside = absurd (omega (arith, le))
starts_rise base end (r ∷ rs) rise (suc i) (suc j) d le inside =
    starts_rise r.stop end rs rise.2 i j d (omega (arith, le)) (omega (arith, inside))

pub stops_rise : (base end : ℕ) (rs : List Replacement) → Rise base end (edits_of rs) →
    IsNonDecreasingBy (λ (r : Replacement). r.stop) rs
stops_rise base end [] rise i j d le inside = absurd (omega (arith, inside))
stops_rise base end (r ∷ rs) rise zero zero d le inside = omega arith
stops_rise base end (r ∷ rs) rise zero (suc j) d le inside =
    let next = above r.stop end rs j d rise.2 (omega (arith, inside)) in
    omega (arith, next.0, next.1)
stops_rise base end (r ∷ rs) rise (suc i) zero d le inside = absurd (omega (arith, le))
stops_rise base end (r ∷ rs) rise (suc i) (suc j) d le inside =
    stops_rise r.stop end rs rise.2 i j d (omega (arith, le)) (omega (arith, inside))
