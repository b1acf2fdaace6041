-- A replacement in two steps: as many items are overwritten as both sides have, and the rest is put
-- in or taken away.
use Rattle.std.proofs.Common.{◌≡◌, ℕ, ◌+◌, ◌-◌, ◌<◌, ◌≤◌, List, ◌++◌, length, take, drop, sym, ap, ap₂, ◌∙◌, append_assoc, arith, length-append}
use Rattle.std.proofs.lemmas.List.{take-append-drop, drop-drop, length-take-le}
use Rattle.std.proofs.Math.Seq.{take-append_seam, drop-append-add}
use Rattle.snl_lists.specs.Moves.{replaced}
use Rattle.snl_lists.proofs.Keys.{take_front}

drop_front : {X : Type 0} (front back : List X) (n k : ℕ) → n ≡ length front + k → drop n (front ++ back) ≡ drop k back
drop_front front back n k e = ap (λ j. drop j (front ++ back)) e ∙ drop-append-add front back k

-- the part up to the end of what was overwritten
front_length : {X : Type 0} (xs made : List X) (start : ℕ) → start ≤ length xs → length (take start xs ++ made) ≡ start + length made
front_length xs made start h = omega (arith, length-append (take start xs) made, length-take-le start xs h)

pub insert_after : {X : Type 0} (xs made : List X) (start stop : ℕ) → start ≤ stop → stop ≤ length xs → stop - start < length made
    → replaced (replaced xs start stop (take (stop - start) made)) stop stop (drop (stop - start) made) ≡ replaced xs start stop made
insert_after {X} xs made start stop h w m =
    let some : List X = take (stop - start) made in
    let others : List X = drop (stop - start) made in
    let front : List X = take start xs ++ some in
    let as_two : replaced xs start stop some ≡ front ++ drop stop xs = sym (append_assoc (take start xs) some (drop stop xs)) in
    let long : stop ≡ length front = omega (arith, front_length xs some start (omega arith), length-take-le (stop - start) made (omega arith)) in
    let before : take stop (replaced xs start stop some) ≡ front = ap (take stop) as_two ∙ take_front front (drop stop xs) stop long in
    let after : drop stop (replaced xs start stop some) ≡ drop stop xs = ap (drop stop) as_two ∙ drop_front front (drop stop xs) stop 0 (omega (arith, long)) in
    ap₂ (λ (a b : List X). a ++ (others ++ b)) before after
    ∙ append_assoc (take start xs) some (others ++ drop stop xs)
    ∙ ap (λ (l : List X). take start xs ++ l) (sym (append_assoc some others (drop stop xs)) ∙ ap (λ (l : List X). l ++ drop stop xs) (take-append-drop (stop - start) made))

pub remove_after : {X : Type 0} (xs made : List X) (start stop : ℕ) → start ≤ stop → stop ≤ length xs → length made ≤ stop - start
    → take (start + length made) (replaced xs start (start + length made) made) ++ drop stop (replaced xs start (start + length made) made) ≡ replaced xs start stop made
remove_after {X} xs made start stop h w m =
    let front : List X = take start xs ++ made in
    let rest : List X = drop (start + length made) xs in
    let as_two : replaced xs start (start + length made) made ≡ front ++ rest = sym (append_assoc (take start xs) made rest) in
    let long : length front ≡ start + length made = front_length xs made start (omega arith) in
    let before : take (start + length made) (replaced xs start (start + length made) made) ≡ front = ap (take (start + length made)) as_two ∙ take_front front rest (start + length made) (sym long) in
    let gone : drop stop (front ++ rest) ≡ drop (stop - (start + length made)) rest = drop_front front rest stop (stop - (start + length made)) (omega (arith, long)) in
    let there : drop (stop - (start + length made)) rest ≡ drop stop xs = drop-drop (stop - (start + length made)) (start + length made) xs ∙ ap (λ n. drop n xs) (omega arith) in
    ap₂ (λ (a b : List X). a ++ b) before (ap (drop stop) as_two ∙ gone ∙ there) ∙ append_assoc (take start xs) made (drop stop xs)

-- a list with other items in a place: what comes before their end, and what comes after it
pub split_there : {X : Type 0} (xs made : List X) (start stop : ℕ) → start ≤ length xs
    → (take (start + length made) (replaced xs start stop made) ≡ take start xs ++ made) × (drop (start + length made) (replaced xs start stop made) ≡ drop stop xs)
split_there {X} xs made start stop h =
    let front : List X = take start xs ++ made in
    let long : start + length made ≡ length front = sym (front_length xs made start h) in
    let as_two : replaced xs start stop made ≡ front ++ drop stop xs = sym (append_assoc (take start xs) made (drop stop xs)) in (
      ap (take (start + length made)) as_two ∙ take_front front (drop stop xs) (start + length made) long,
      ap (drop (start + length made)) as_two ∙ drop_front front (drop stop xs) (start + length made) 0 (omega (arith, long)),
    )
