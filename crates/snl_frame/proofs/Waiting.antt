-- How many bytes an unfinished message has at most.
use Rattle.std.proofs.Common.{◌≡◌, ℕ, zero, suc, ◌+◌, ◌-◌, ◌*◌, ◌≤◌, List, [], ◌∷◌, length, take, drop, Bool, true, false, cond, leb, Option, Some, None, refl, arith, length-drop, position, ◌==◌}
use Rattle.std.proofs.lemmas.Bool.Decides.{nat_tests}
use Rattle.snl_frame.specs.Frame.{AtFront, Message, NoMessage, Unfinished, after_header, after_line, by_line_end, in_header, length_after, with_body, without_return}

after_header-few : (before : Option ℕ) (after : List ℕ) → after_header before after ≡ Unfinished →
    length after ≤ 67108864
after_header-few None after h = cc
after_header-few (Some n) after h = fits (leb n 67108864) refl h
  where
    body : (c : Bool) → leb n (length after) ≡ c → leb n 67108864 ≡ true →
        cond c (Message (take n after) (drop n after)) Unfinished ≡ Unfinished →
        length after ≤ 67108864
    body true e t k = cc
    body false e t k = grind (arith, nat_tests)

    fits : (c : Bool) → leb n 67108864 ≡ c → cond c (with_body n after) NoMessage ≡ Unfinished →
        length after ≤ 67108864
    fits true t k = body (leb n (length after)) refl t k
    fits false t k = cc

-- what `next` leaves unfinished has at most so many bytes
abbrev AreFew : (next : Option ℕ → List ℕ → AtFront) → (most : ℕ) → Type 0
AreFew next most = (o : Option ℕ) (l : List ℕ) → next o l ≡ Unfinished → length l ≤ most

after_line-few : (next : Option ℕ → List ℕ → AtFront) (before : Option ℕ) (most : ℕ)
    (line after : List ℕ) → 67108864 ≤ most → AreFew next most →
    after_line next before line after ≡ Unfinished → length after ≤ most
after_line-few next before most [] after room each h =
    omega (arith, after_header-few before after h)
after_line-few next before most (b ∷ line) after room each h =
    each (length_after before (b ∷ line)) after h

-- bytes with no line end
long-few : (next : Option ℕ → List ℕ → AtFront) (before : Option ℕ) (bytes : List ℕ) →
    by_line_end next before None bytes ≡ Unfinished → length bytes ≤ 256
long-few next before bytes h = short (leb (length bytes) 256) refl h
  where
    short : (c : Bool) → leb (length bytes) 256 ≡ c → cond c Unfinished NoMessage ≡ Unfinished →
        length bytes ≤ 256
    short true t k = grind (arith, nat_tests)
    short false t k = cc

line-few : (next : Option ℕ → List ℕ → AtFront) (before : Option ℕ) (end most : ℕ)
    (bytes : List ℕ) → 67108864 ≤ most → AreFew next most →
    by_line_end next before (Some end) bytes ≡ Unfinished → length bytes ≤ 257 + most
line-few next before end most bytes room each h = ended (leb end 256) refl h
  where
    ended : (c : Bool) → leb end 256 ≡ c →
        cond c (after_line next before (without_return (take end bytes)) (drop (end + 1) bytes))
        NoMessage ≡ Unfinished →
        length bytes ≤ 257 + most
    ended true t k =
        let few : end ≤ 256 = grind (arith, nat_tests) in
        let rest : length (drop (end + 1) bytes) ≤ most =
        after_line-few next before most (without_return (take end bytes)) (drop (end + 1) bytes)
        room each k in
        let size : length (drop (end + 1) bytes) ≡ length bytes - (end + 1) =
        length-drop (end + 1) bytes in
        omega arith
    ended false t k = cc

by_line_end-few : (next : Option ℕ → List ℕ → AtFront) (before end : Option ℕ) (most : ℕ)
    (bytes : List ℕ) → 67108864 ≤ most → AreFew next most →
    by_line_end next before end bytes ≡ Unfinished → length bytes ≤ 257 + most
by_line_end-few next before None most bytes room each h =
    omega (arith, long-few next before bytes h)
by_line_end-few next before (Some end) most bytes room each h =
    line-few next before end most bytes room each h

pub in_header-few : (lines : ℕ) (before : Option ℕ) (bytes : List ℕ) →
    in_header lines before bytes ≡ Unfinished → length bytes ≤ lines * 257 + 67108864
unfolding in_header
in_header-few zero before bytes h = cc
in_header-few (suc n) before bytes h =
    let few : length bytes ≤ 257 + (n * 257 + 67108864) =
    by_line_end-few (in_header n) before (position (λ c. c == 10) bytes) (n * 257 + 67108864)
    bytes (omega arith) (λ o l. in_header-few n o l) h in
    omega arith
