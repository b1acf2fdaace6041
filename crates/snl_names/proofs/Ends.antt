-- Names that are one after another, and where they end.
use Rattle.std.proofs.Common.{◌≡◌, ℕ, zero, suc, ◌+◌, ◌-◌, ◌<◌, ◌≤◌, List, [], ◌∷◌, ◌++◌, length, take, drop, get_or, slice_get, Some, refl, sym, ap, ap₂, ◌∙◌, arith, length-append, length-drop}
use Rattle.std.specs.Prelude.{sum_by}
use Rattle.std.proofs.lemmas.List.{drop_at, drop-append-le, take-append-drop, take-append-le, take_all, length-take-le}
use Rattle.std.proofs.Math.Seq.{take-append_seam}
use Rattle.std.proofs.lemmas.List.Sums.{sum_by-cons}
use Rattle.snl_cut.specs.Cut.{last_end, members}
use Rattle.snl_cut.specs.CutLaws.{last_taken, length_members, members_joined}
use Rattle.snl_names.specs.Spellings.{AreEnds, Follow}

pub follow_last : (from : ℕ) (es : List ℕ) → Follow from es → from ≤ last_end from es
follow_last from [] h = omega arith
follow_last from (e ∷ es) h = omega (arith, h.0, follow_last e es h.1)

-- The name with a number reaches from the end of the one before it to its own.
pub got_member : (bytes : List ℕ) (from : ℕ) (es : List ℕ) (k : ℕ) → k < length es
    → slice_get (members bytes from es) k ≡ Some (take (get_or es k 0 - last_end from (take k es)) (drop (last_end from (take k es)) bytes))
got_member bytes from [] k h = absurd (omega (arith, h))
got_member bytes from (e ∷ es) zero h = refl
got_member bytes from (e ∷ es) (suc k) h = got_member bytes e es k (omega (arith, h))

pub follow_at : (from : ℕ) (es : List ℕ) (k : ℕ) → Follow from es → k < length es → (last_end from (take k es) ≤ get_or es k 0) × (get_or es k 0 ≤ last_end from es)
follow_at from [] k h lt = absurd (omega (arith, lt))
follow_at from (e ∷ es) zero h lt = (h.0, follow_last e es h.1)
follow_at from (e ∷ es) (suc k) h lt = follow_at e es k h.1 (omega (arith, lt))

-- ---- one more name

pub follow_push : (from : ℕ) (es : List ℕ) (e : ℕ) → Follow from es → last_end from es ≤ e → Follow from (es ++ e ∷ [])
follow_push from [] e h le = (le, tt)
follow_push from (x ∷ xs) e h le = (h.0, follow_push x xs e h.1 le)

pub last_push : (from : ℕ) (es : List ℕ) (e : ℕ) → last_end from (es ++ e ∷ []) ≡ e
last_push from [] e = refl
last_push from (x ∷ xs) e = last_push x xs e

part_longer : (bytes more : List ℕ) (from n : ℕ) → from + n ≤ length bytes → take n (drop from (bytes ++ more)) ≡ take n (drop from bytes)
part_longer bytes more from n h =
    ap (take n) (drop-append-le from bytes more (omega (arith, h)))
    ∙ take-append-le n (drop from bytes) more (omega (arith, h, length-drop from bytes))

members_longer : (bytes more : List ℕ) (from : ℕ) (es : List ℕ) → Follow from es → last_end from es ≤ length bytes → members (bytes ++ more) from es ≡ members bytes from es
members_longer bytes more from [] h le = refl
members_longer bytes more from (e ∷ es) h le =
    ap₂ (λ (x : List ℕ) (xs : List (List ℕ)). x ∷ xs)
    (part_longer bytes more from (e - from) (omega (arith, h.0, follow_last e es h.1, le)))
    (members_longer bytes more e es h.1 le)

last_member : (bytes name : List ℕ) (from to : ℕ) → from ≡ length bytes → to ≡ length (bytes ++ name) → take (to - from) (drop from (bytes ++ name)) ≡ name
last_member bytes name from to f t =
    ap (take (to - from)) (drop_at bytes name from (sym f))
    ∙ take_all (to - from) name (omega (arith, f, t, length-append bytes name))

pub members_push : (bytes name ends : List ℕ) (end : ℕ) → AreEnds bytes ends → end ≡ length (bytes ++ name) → members (bytes ++ name) 0 (ends ++ end ∷ []) ≡ members bytes 0 ends ++ name ∷ []
members_push bytes name ends end is at =
    members_joined (bytes ++ name) 0 ends (end ∷ [])
    ∙ ap₂ (λ (xs : List (List ℕ)) (x : List ℕ). xs ++ x ∷ [])
    (members_longer bytes name 0 ends is.follow (omega (arith, is.last)))
    (last_member bytes name (last_end 0 ends) end is.last at)

pub ends_push : (bytes name ends : List ℕ) (end : ℕ) → AreEnds bytes ends → end ≡ length (bytes ++ name) → AreEnds (bytes ++ name) (ends ++ end ∷ [])
ends_push bytes name ends end is at = record {
  follow = follow_push 0 ends end is.follow (omega (arith, is.last, at, length-append bytes name));
  last = last_push 0 ends end ∙ at;
}

-- ---- their bytes

total_from : (bytes : List ℕ) (from : ℕ) (es : List ℕ) → Follow from es → last_end from es ≤ length bytes → from + sum_by length (members bytes from es) ≡ last_end from es
total_from bytes from [] h le = omega arith
total_from bytes from (e ∷ es) h le =
    let part : List ℕ = take (e - from) (drop from bytes) in
    let size : length part ≡ e - from = length-take-le (e - from) (drop from bytes) (omega (arith, h.0, follow_last e es h.1, le, length-drop from bytes)) in
    omega (arith, h.0, size, sum_by-cons {X = List ℕ} length part (members bytes e es), total_from bytes e es h.1 le)

pub total_bytes : (bytes ends : List ℕ) → AreEnds bytes ends → sum_by length (members bytes 0 ends) ≡ length bytes
total_bytes bytes ends is = omega (arith, total_from bytes 0 ends is.follow (omega (arith, is.last)), is.last)

-- ---- where one of them is

pub start_at : (ends : List ℕ) (n : ℕ) → 0 < n → n ≤ length ends → get_or ends (n - 1) 0 ≡ last_end 0 (take n ends)
start_at ends zero h le = absurd (omega (arith, h))
start_at ends (suc k) h le =
    let e : suc k - 1 ≡ k = omega arith in
    ap (λ (i : ℕ). get_or ends i 0) e ∙ sym (last_taken 0 ends k (omega (arith, le)))

-- The name with a number is in the bytes.
pub record IsMember (bytes ends : List ℕ) (k start end : ℕ) : Type 0 where
  pub first : start ≤ end
  pub last : end ≤ length bytes
  pub value : slice_get (members bytes 0 ends) k ≡ Some (take (end - start) (drop start bytes))

pub member_at : (bytes ends : List ℕ) (k start end : ℕ) → AreEnds bytes ends → k < length ends → start ≡ last_end 0 (take k ends) → end ≡ get_or ends k 0 → IsMember bytes ends k start end
member_at bytes ends k start end is lt s e =
    let at = follow_at 0 ends k is.follow lt in
    record {
      first = omega (arith, at.0, s, e);
      last = omega (arith, at.1, e, is.last);
      value = got_member bytes 0 ends k lt ∙ ap₂ (λ (a b : ℕ). Some (take (b - a) (drop a bytes))) (sym s) (sym e);
    }

pub same_count : (bytes ends : List ℕ) (names : List (List ℕ)) → members bytes 0 ends ≡ names → length ends ≡ length names
same_count bytes ends names h = sym (length_members bytes 0 ends) ∙ ap length h

-- ---- the first of them

-- Names whose ends and bytes begin with those of others begin with these.
pub first_members : (bytes ends b es : List ℕ) → AreEnds b es → take (length es) ends ≡ es → take (length b) bytes ≡ b → take (length es) (members bytes 0 ends) ≡ members b 0 es
first_members bytes ends b es is first_ends first_bytes =
    let whole_bytes : bytes ≡ b ++ drop (length b) bytes = sym (take-append-drop (length b) bytes) ∙ ap (λ (x : List ℕ). x ++ drop (length b) bytes) first_bytes in
    let whole_ends : ends ≡ es ++ drop (length es) ends = sym (take-append-drop (length es) ends) ∙ ap (λ (x : List ℕ). x ++ drop (length es) ends) first_ends in
    let count : length (members bytes 0 es) ≡ length es = length_members bytes 0 es in
    ap (λ (x : List ℕ). take (length es) (members bytes 0 x)) whole_ends
    ∙ ap (take (length es)) (members_joined bytes 0 es (drop (length es) ends))
    ∙ ap (λ (n : ℕ). take n (members bytes 0 es ++ members bytes (last_end 0 es) (drop (length es) ends))) (sym count)
    ∙ take-append_seam (members bytes 0 es) (members bytes (last_end 0 es) (drop (length es) ends))
    ∙ ap (λ (x : List ℕ). members x 0 es) whole_bytes
    ∙ members_longer b (drop (length b) bytes) 0 es is.follow (omega (arith, is.last))
