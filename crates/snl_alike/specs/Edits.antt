-- Replacements in a text, the text after them, and what becomes of places.
use Rattle.std.specs.Prelude.{◌≡◌, ℕ, zero, suc, ◌+◌, ◌-◌, ◌≤◌, Bool, true, false, nat_le, nat_lt, if◌then◌else◌, List, [], ◌∷◌, ◌++◌, drop, length, map, take}
use Rattle.std.specs.List.Sorted.{IsPartitionPoint}
use Rattle.snl_alike.specs.declared.replacement.Replacement.{Replacement}

-- Other bytes in the place of those from one place up to another.
pub record Edit : Type 0 where
  pub start : ℕ
  pub stop : ℕ
  pub new : List ℕ

abbrev pub edit_of : Replacement → Edit
edit_of r = record { start = r.start; stop = r.stop; new = r.new.now }

abbrev pub edits_of : List Replacement → List Edit
edits_of rs = map edit_of rs

-- They follow one another, between two places.
abbrev pub Rise : (base end : ℕ) → List Edit → Type 0
Rise base end [] = base ≤ end
Rise base end (e ∷ es) = (base ≤ e.start) × (e.start ≤ e.stop) × Rise e.stop end es

-- What is made of the text from a place on.
abbrev pub edited_from : (text : List ℕ) → (base : ℕ) → List Edit → List ℕ
edited_from text base [] = drop base text
edited_from text base (e ∷ es) = take (e.start - base) (drop base text)
    ++ (e.new ++ edited_from text e.stop es)

-- The text after all of them.
unfoldable pub with_edits : List ℕ → List Edit → List ℕ
with_edits text es = edited_from text 0 es

-- Where in the new text the bytes of an edit end, where the text before `base` has become so many
-- bytes.
abbrev pub new_stop : (base made : ℕ) → Edit → ℕ
new_stop base made e = made + (e.start - base) + length e.new

abbrev pub new_stops : (base made : ℕ) → List Edit → List ℕ
new_stops base made [] = []
new_stops base made (e ∷ es) = new_stop base made e ∷ new_stops e.stop (new_stop base made e) es

-- What becomes of a place, by which of the edits are before it.
abbrev pub moved_by : (before : Edit → Bool) → (base made : ℕ) → List Edit → ℕ → ℕ
moved_by before base made [] place = made + (place - base)
moved_by before base made (e ∷ es) place = if before e
    then moved_by before e.stop (new_stop base made e) es place else made + (place - base)

-- Of a place where something begins: an edit that ends there is before it.
unfoldable pub moved_start : List Edit → ℕ → ℕ
moved_start es place = moved_by (λ e. nat_le e.stop place) 0 0 es place

-- Of a place where something ends: an edit that begins there is not before it.
unfoldable pub moved_stop : List Edit → ℕ → ℕ
moved_stop es place = moved_by (λ e. nat_lt e.start place) 0 0 es place

-- The first so many replacements are before, and no others.
abbrev pub AreSplit : (before : Edit → Bool) → List Replacement → ℕ → Type 0
AreSplit before rs count = IsPartitionPoint (λ r. before (edit_of r) ≡ true)
    (λ r. before (edit_of r) ≡ false) rs count

-- Where the last of the first so many edits stops, in the old text and in the new one.
abbrev pub last_stops : (base made : ℕ) → List Edit → ℕ → ℕ × ℕ
last_stops base made es zero = (base, made)
last_stops base made [] (suc count) = (base, made)
last_stops base made (e ∷ es) (suc count) = last_stops e.stop (new_stop base made e) es count

-- What becomes of a place after these.
abbrev pub moved_after : ℕ × ℕ → ℕ → ℕ
moved_after stops place = stops.1 + (place - stops.0)
