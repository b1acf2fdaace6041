-- Where replacements stop in the new text, and what becomes of a place by these.
use Rattle.std.proofs.Common.{◌≡◌, ℕ, zero, suc, ◌+◌, ◌-◌, ◌<◌, ◌≤◌, Bool, cond, List, [], ◌∷◌, length, get_or, refl, ap, ◌∙◌, arith}
use Rattle.snl_alike.specs.declared.replacement.Replacement.{Replacement}
use Rattle.snl_alike.specs.Edits.{AreSplit, Edit, edit_of, edits_of, last_stops, moved_after, moved_by, new_stop, new_stops}

pub length_stops : (base made : ℕ) (rs : List Replacement) →
    length (new_stops base made (edits_of rs)) ≡ length rs
length_stops base made [] = refl
length_stops base made (r ∷ rs) = ap suc (length_stops r.stop (new_stop base made (edit_of r)) rs)

pub last_at : (base made : ℕ) (rs : List Replacement) (i : ℕ) (r : Replacement) (d : ℕ) →
    i < length rs → last_stops base made (edits_of rs) (suc i) ≡
    ((get_or rs i r).stop, get_or (new_stops base made (edits_of rs)) i d)
last_at base made [] i r d inside = absurd (omega (arith, inside))
last_at base made (x ∷ rs) zero r d inside = refl
last_at base made (x ∷ rs) (suc i) r d inside =
    last_at x.stop (new_stop base made (edit_of x)) rs i r d (omega (arith, inside))

-- the edits before a place are the first so many
pub moved_split : (before : Edit → Bool) (base made : ℕ) (rs : List Replacement)
    (count place : ℕ) → count ≤ length rs → AreSplit before rs count →
    moved_by before base made (edits_of rs) place ≡
    moved_after (last_stops base made (edits_of rs) count) place
moved_split before base made [] zero place le split = refl
moved_split before base made [] (suc count) place le split = absurd (omega (arith, le))
moved_split before base made (r ∷ rs) zero place le split =
    ap (λ (b : Bool). cond b
    (moved_by before r.stop (new_stop base made (edit_of r)) (edits_of rs) place)
    (made + (place - base))) (split.1 0 r (omega arith) (omega arith))
moved_split before base made (r ∷ rs) (suc count) place le split =
    ap (λ (b : Bool). cond b
    (moved_by before r.stop (new_stop base made (edit_of r)) (edits_of rs) place)
    (made + (place - base))) (split.0 0 r (omega arith) (omega arith))
    ∙ moved_split before r.stop (new_stop base made (edit_of r)) rs count place (omega (arith, le)) (
      (λ k d low high. split.0 (suc k) d (omega arith) (omega (arith, high))),
      (λ k d low high. split.1 (suc k) d (omega (arith, low)) (omega (arith, high))),
    )
