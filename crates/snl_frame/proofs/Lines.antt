-- The first line of a header, and what is after it.
use Rattle.std.proofs.Common.{◌≡◌, ◌≢◌, ℕ, zero, suc, ◌+◌, ◌-◌, ◌<◌, ◌≤◌, min, List, [], ◌++◌, length, take, drop, Bool, true, false, cond, ltb, leb, Option, Some, None, refl, sym, ap, ◌∙◌, arith, length-append, length-drop, position, ◌==◌}
use Rattle.std.proofs.lemmas.Bool.{le-leb}
use Rattle.std.proofs.lemmas.Bool.Decides.{nat_tests}
use Rattle.std.proofs.lemmas.List.{append-nil, drop-drop, drop-append-le, length-take, take_all, take-append-le}
use Rattle.std.specs.List.{position_or_len}
use Rattle.snl_frame.specs.declared.messages.Front.{Front}
use Rattle.snl_frame.specs.declared.messages.Front.TheVariants.{Short, Malformed, HeaderAlone, Whole}
use Rattle.snl_frame.specs.Front.{IsFrontBy, IsWhole, moved}
use Rattle.snl_frame.specs.Frame.{AtFront, Message, NoLength, NoMessage, Unfinished, after_line, by_line_end, in_header, without_return}
use Rattle.snl_facts.specs.Positions.{place_found, place_missed, place_at}
use Rattle.snl_facts.specs.Feeds.{feed_place, feed_inside, feed_beyond}

-- a place that is found is inside
pub place_inside : (bytes : List ℕ) (i : ℕ) → position (λ c. c == 10) bytes ≡ Some i →
    i < length bytes
place_inside bytes i h = (place_found (position_or_len (λ c. c == 10) bytes) (length bytes) i h).1

-- a header that some line may follow begins with a line
pub in_header-first : (lines : ℕ) (before : Option ℕ) (bytes : List ℕ) → lines ≢ 0 →
    in_header lines before bytes
    ≡ by_line_end (in_header (lines - 1)) before (position (λ c. c == 10) bytes) bytes
unfolding in_header
in_header-first zero before bytes h = absurd (h refl)
in_header-first (suc n) before bytes h =
    ap (λ (k : ℕ). by_line_end (in_header k) before (position (λ c. c == 10) bytes) bytes)
    (omega arith)

-- no header has no lines
pub in_header-none : (before : Option ℕ) (bytes : List ℕ) → in_header 0 before bytes ≡ NoMessage
unfolding in_header
in_header-none before bytes = refl

-- the line at the front of the bytes, which ends within 256 bytes
pub in_header-line : (lines : ℕ) (before : Option ℕ) (n : ℕ) (bytes more : List ℕ) (end : ℕ) →
    lines ≢ 0 → n ≤ 257 → position (λ c. c == 10) (take n bytes) ≡ Some end →
    in_header lines before (bytes ++ more)
    ≡ after_line (in_header (lines - 1)) before (without_return (take end bytes))
    (drop (end + 1) bytes ++ more)
in_header-line lines before n bytes more end some few h =
    let at = place_found (feed_place (take n bytes)) (length (take n bytes)) end h in
    let short : end < 257 = omega (arith, at.1, length-take n bytes) in
    let inside : end < length bytes = omega (arith, at.1, length-take n bytes) in
    let place : feed_place (bytes ++ more) ≡ end =
    feed_inside n bytes more (omega (arith, at.0, at.1)) ∙ at.0 in
    let long : length (bytes ++ more) ≡ length bytes + length more = length-append bytes more in
    let found : position (λ c. c == 10) (bytes ++ more) ≡ Some end =
    place_at (feed_place (bytes ++ more)) (length (bytes ++ more)) (omega arith)
    ∙ ap Some place in
    let line : by_line_end (in_header (lines - 1)) before (Some end) (bytes ++ more)
    ≡ after_line (in_header (lines - 1)) before (without_return (take end (bytes ++ more)))
    (drop (end + 1) (bytes ++ more)) =
    rw (le-leb end 256 (omega arith)) refl in
    let rest : List ℕ → List ℕ → AtFront =
    λ l after. after_line (in_header (lines - 1)) before (without_return l) after in
    in_header-first lines before (bytes ++ more) some
    ∙ ap (λ (o : Option ℕ). by_line_end (in_header (lines - 1)) before o (bytes ++ more)) found
    ∙ line
    ∙ ap (λ (l : List ℕ). rest l (drop (end + 1) (bytes ++ more)))
    (take-append-le end bytes more (omega arith))
    ∙ ap (rest (take end bytes)) (drop-append-le (end + 1) bytes more (omega arith))

-- bytes whose first LF, if there is one, is after 256 of them
pub too_long : (next : Option ℕ → List ℕ → AtFront) (before : Option ℕ) (a m : ℕ) (bytes : List ℕ) →
    256 < a → 256 < length bytes →
    by_line_end next before (cond (ltb a m) (Some a) None) bytes ≡ NoMessage
too_long next before a m bytes far long = split (ltb a m)
  where
    far_test : leb a 256 ≡ false
    far_test = grind (arith, nat_tests)

    long_test : leb (length bytes) 256 ≡ false
    long_test = grind (arith, nat_tests)

    split : (b : Bool) → by_line_end next before (cond b (Some a) None) bytes ≡ NoMessage
    split true = rw far_test refl
    split false = rw long_test refl

-- a line of more than 256 bytes is no line of a header
pub in_header-long : (lines : ℕ) (before : Option ℕ) (n : ℕ) (bytes more : List ℕ) → lines ≢ 0 →
    n ≡ min (length bytes) 257 → position (λ c. c == 10) (take n bytes) ≡ None →
    256 < length bytes → in_header lines before (bytes ++ more) ≡ NoMessage
in_header-long lines before n bytes more some few h long =
    let none = place_missed (feed_place (take n bytes)) (length (take n bytes)) h in
    let size : length (take n bytes) ≡ min n (length bytes) = length-take n bytes in
    let beyond = feed_beyond n bytes more none in
    let whole : length (bytes ++ more) ≡ length bytes + length more = length-append bytes more in
    in_header-first lines before (bytes ++ more) some
    ∙ too_long (in_header (lines - 1)) before (feed_place (bytes ++ more)) (length (bytes ++ more))
    (bytes ++ more) (omega arith) (omega arith)

-- a line that has not ended yet
pub in_header-short : (lines : ℕ) (before : Option ℕ) (n : ℕ) (bytes : List ℕ) → lines ≢ 0 →
    n ≡ min (length bytes) 257 → position (λ c. c == 10) (take n bytes) ≡ None →
    length bytes ≤ 256 → in_header lines before bytes ≡ Unfinished
in_header-short lines before n bytes some few h short =
    let all : take n bytes ≡ bytes = take_all n bytes (omega arith) in
    let none : position (λ c. c == 10) bytes ≡ None =
    ap (λ (l : List ℕ). position (λ c. c == 10) l) (sym all) ∙ h in
    let waits : by_line_end (in_header (lines - 1)) before None bytes ≡ Unfinished =
    rw (le-leb (length bytes) 256 short) refl in
    in_header-first lines before bytes some
    ∙ ap (λ (o : Option ℕ). by_line_end (in_header (lines - 1)) before o bytes) none
    ∙ waits

-- what is at the front, told some bytes further on
further : (told inner answer : List ℕ → AtFront) (bytes : List ℕ) (by len : ℕ) → by ≤ length bytes →
    ((more : List ℕ) → told (bytes ++ more) ≡ inner (drop by bytes ++ more)) →
    IsWhole inner (drop by bytes) answer len → IsWhole told bytes answer (by + len)
further told inner answer bytes by len inside same s =
    let rest : length (drop by bytes) ≡ length bytes - by = length-drop by bytes in
    let within : len ≤ length (drop by bytes) = s.inside in
    let both : drop len (drop by bytes) ≡ drop (by + len) bytes =
    drop-drop len by bytes ∙ ap (λ (k : ℕ). drop k bytes) (omega arith) in
    record {
      inside = omega arith;
      told_is = λ more. same more ∙ s.told_is more ∙ ap (λ (l : List ℕ). answer (l ++ more)) both;
    }

-- what is at the front of bytes, from what is there some bytes further on
pub front_further : (told inner : List ℕ → AtFront) (bytes : List ℕ) (by : ℕ) (front : Front) →
    by ≤ length bytes → ((more : List ℕ) → told (bytes ++ more) ≡ inner (drop by bytes ++ more)) →
    IsFrontBy inner (drop by bytes) front → IsFrontBy told bytes (moved by front)
front_further told inner bytes by Short inside same f =
    ap told (sym (append-nil bytes)) ∙ same [] ∙ ap inner (append-nil (drop by bytes)) ∙ f
front_further told inner bytes by Malformed inside same f = λ more. same more ∙ f more
front_further told inner bytes by (HeaderAlone len) inside same f =
    further told inner NoLength bytes by len inside same f
front_further told inner bytes by (Whole body len) inside same f =
    further told inner (Message body.now) bytes by len inside same f
