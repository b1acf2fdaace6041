-- The first LF of some bytes.
use Rattle.std.proofs.Common.{◌≡◌, ◌==◌, ℕ, ◌+◌, ◌<◌, ◌≤◌, not, List, ◌++◌, length, take, drop, Some, ap, ◌∙◌, arith, length-append, position}
use Rattle.std.proofs.lemmas.Bool.Decides.{nat_tests}
use Rattle.std.proofs.lemmas.List.Folds.{prefix_len-append}
use Rattle.std.specs.List.{position_or_len}
use Rattle.snl_facts.specs.Lists.{by_front}
use Rattle.snl_facts.specs.Positions.{place_found, place_at}

-- The place of the first LF; if there is none, how many bytes there are.
abbrev pub feed_place : List ℕ → ℕ
feed_place bytes = position_or_len (λ c. c == 10) bytes

-- an LF in some bytes is the first, whatever follows them
pub feed_stays : (bytes more : List ℕ) → feed_place bytes < length bytes → feed_place (bytes ++ more) ≡ feed_place bytes
feed_stays bytes more h = prefix_len-append (λ c. not (c == 10)) bytes more ∙ grind (arith, nat_tests)

-- where there is none, the first is after them
pub feed_after : (bytes more : List ℕ) → length bytes ≤ feed_place bytes → length bytes ≤ feed_place (bytes ++ more)
feed_after bytes more h =
    let f = prefix_len-append (λ c. not (c == 10)) bytes more in
    grind (arith, nat_tests)

-- an LF in a front of the bytes is their first, whatever follows them
pub feed_inside : (n : ℕ) (bytes more : List ℕ) → feed_place (take n bytes) < length (take n bytes) → feed_place (bytes ++ more) ≡ feed_place (take n bytes)
feed_inside n bytes more h = ap feed_place (by_front n bytes more) ∙ feed_stays (take n bytes) (drop n bytes ++ more) h

-- where there is none in a front, the first is after it
pub feed_beyond : (n : ℕ) (bytes more : List ℕ) → length (take n bytes) ≤ feed_place (take n bytes) → length (take n bytes) ≤ feed_place (bytes ++ more)
feed_beyond n bytes more h =
    let e : feed_place (bytes ++ more) ≡ feed_place (take n bytes ++ (drop n bytes ++ more)) = ap feed_place (by_front n bytes more) in
    let f = feed_after (take n bytes) (drop n bytes ++ more) h in
    omega (arith, e, f)

-- the first LF stays the first, whatever follows
pub feed_grows : (bytes more : List ℕ) (end : ℕ) → position (λ c. c == 10) bytes ≡ Some end → (position (λ c. c == 10) (bytes ++ more) ≡ Some end) × (end < length bytes)
feed_grows bytes more end h =
    let at = place_found (feed_place bytes) (length bytes) end h in
    let front : feed_place (bytes ++ more) ≡ feed_place bytes = feed_stays bytes more (omega (arith, at.0, at.1)) in
    let long : length (bytes ++ more) ≡ length bytes + length more = length-append bytes more in
    let found : position (λ c. c == 10) (bytes ++ more) ≡ Some (feed_place (bytes ++ more)) =
    place_at (feed_place (bytes ++ more)) (length (bytes ++ more)) (omega (arith, at.0, at.1)) in
    (found ∙ ap Some (front ∙ at.0), at.1)
