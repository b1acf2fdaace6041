-- Edits that are undone.
use Rattle.std.proofs.Common.{◌≡◌, ℕ, zero, suc, ◌+◌, ◌-◌, ◌≤◌, List, [], ◌∷◌, ◌++◌, drop, length, take, refl, sym, ap, ◌∙◌, arith, append_assoc, length-append}
use Rattle.std.proofs.lemmas.List.{drop-drop, take-append-drop}
use Rattle.snl_alike.specs.Edits.{Edit, Rise, edited_from, new_stop, with_edits}
use Rattle.snl_alike.specs.Undone.{undone, undone_from}
use Rattle.snl_alike.proofs.Rising.{within}
use Rattle.snl_alike.proofs.Steps.{length_between}

drop_front : (xs ys : List ℕ) (n : ℕ) → length xs ≡ n → drop n (xs ++ ys) ≡ ys
drop_front [] ys zero e = refl
drop_front [] ys (suc n) e = absurd (omega (arith, e))
drop_front (x ∷ xs) ys zero e = absurd (omega (arith, e))
drop_front (x ∷ xs) ys (suc n) e = drop_front xs ys n (omega (arith, e))

take_front : (xs ys : List ℕ) (n : ℕ) → length xs ≡ n → take n (xs ++ ys) ≡ xs
take_front [] ys zero e = refl
take_front [] ys (suc n) e = absurd (omega (arith, e))
take_front (x ∷ xs) ys zero e = absurd (omega (arith, e))
take_front (x ∷ xs) ys (suc n) e =
    ap (λ (l : List ℕ). x ∷ l) (take_front xs ys n (omega (arith, e)))

-- the bytes between two places, and those from the second one on
joined : (text : List ℕ) (from to : ℕ) → from ≤ to →
    take (to - from) (drop from text) ++ drop to text ≡ drop from text
joined text from to le =
    let whole : from + (to - from) ≡ to = omega (arith, le) in
    ap (λ (l : List ℕ). take (to - from) (drop from text) ++ l)
    (ap (λ (n : ℕ). drop n text) (sym whole) ∙ sym (drop-drop (to - from) from text))
    ∙ take-append-drop (to - from) (drop from text)

undone_after : (text : List ℕ) (base made : ℕ) (front : List ℕ) (es : List Edit) →
    length front ≡ made → Rise base (length text) es →
    edited_from (front ++ edited_from text base es) made (undone_from text base made es)
    ≡ drop base text
undone_after text base made front [] count rise = drop_front front (drop base text) made count
undone_after text base made front (e ∷ es) count rise =
    let kept : List ℕ = take (e.start - base) (drop base text) in
    let rest : List ℕ = edited_from text e.stop es in
    let more : List ℕ = kept ++ (e.new ++ rest) in
    let inside : e.start ≤ length text =
    omega (arith, rise.1, within e.stop (length text) es rise.2) in
    let kept_count : length kept ≡ e.start - base = length_between text base e.start inside in
    let gap : (made + (e.start - base)) - made ≡ e.start - base = omega arith in
    let same_front : take ((made + (e.start - base)) - made) (drop made (front ++ more)) ≡ kept =
    ap (λ (n : ℕ). take n (drop made (front ++ more))) gap
    ∙ ap (take (e.start - base)) (drop_front front more made count)
    ∙ take_front kept (e.new ++ rest) (e.start - base) kept_count in
    let next : List ℕ = (front ++ kept) ++ e.new in
    let next_count : length next ≡ new_stop base made e =
    omega (
      arith,
      length-append (front ++ kept) e.new,
      length-append front kept,
      count,
      kept_count,
    ) in
    let same_text : front ++ more ≡ next ++ rest =
    sym (append_assoc (front ++ kept) e.new rest ∙ append_assoc front kept (e.new ++ rest)) in
    let stop = new_stop base made e in
    let undo = undone_from text e.stop stop es in
    let later : edited_from (front ++ more) stop undo ≡ drop e.stop text =
    ap (λ (l : List ℕ). edited_from l stop undo) same_text
    ∙ undone_after text e.stop stop next es next_count rise.2 in
    let old : List ℕ = take (e.stop - e.start) (drop e.start text) in
    ap (λ (l : List ℕ). l ++ (old ++ edited_from (front ++ more) stop undo))
    same_front
    ∙ ap (λ (l : List ℕ). kept ++ (old ++ l)) later
    ∙ ap (λ (l : List ℕ). kept ++ l) (joined text e.start e.stop rise.1)
    ∙ joined text base e.start rise.0

pub undone_all : (text : List ℕ) (es : List Edit) → Rise 0 (length text) es →
    with_edits (with_edits text es) (undone text es) ≡ text
unfolding with_edits undone
undone_all text es rise = undone_after text 0 0 [] es refl rise
