-- What is told of the front of bytes stays told, whatever follows them.
use Rattle.std.proofs.Common.{◌≡◌, ◌≢◌, ℕ, zero, suc, ◌+◌, ◌<◌, ◌≤◌, List, [], ◌∷◌, ◌++◌, length, take, drop, Bool, true, false, cond, leb, Option, Some, None, refl, ap, ◌∙◌, arith, length-append, position, ◌==◌}
use Rattle.std.proofs.lemmas.Bool.Decides.{nat_tests}
use Rattle.std.proofs.lemmas.List.{drop-append-le, take-append-le}
use Rattle.snl_frame.specs.Frame.{AtFront, Message, NoMessage, Unfinished, after_header, after_line, by_line_end, in_header, length_after, with_body, without_return}
use Rattle.snl_frame.specs.Front.{grown}
use Rattle.snl_frame.proofs.Lines.{too_long}
use Rattle.snl_facts.specs.Positions.{place_missed}
use Rattle.snl_facts.specs.Feeds.{feed_place, feed_after, feed_grows}

-- a body that is all there
after_header-grows : (before : Option ℕ) (after more : List ℕ) →
    after_header before after ≢ Unfinished →
    after_header before (after ++ more) ≡ grown (after_header before after) more
after_header-grows None after more h = refl
after_header-grows (Some n) after more h = fits (leb n 67108864) h
  where
    body : (c : Bool) → leb n (length after) ≡ c →
        cond c (Message (take n after) (drop n after)) Unfinished ≢ Unfinished →
        with_body n (after ++ more)
        ≡ grown (cond c (Message (take n after) (drop n after)) Unfinished) more
    body false e k = absurd (k refl)
    body true e k =
        let room : n ≤ length after = grind (arith, nat_tests) in
        let long : length (after ++ more) ≡ length after + length more = length-append after more in
        let test : leb n (length (after ++ more)) ≡ true = grind (arith, nat_tests) in
        rw (test, take-append-le n after more room, drop-append-le n after more room) refl

    fits : (c : Bool) → cond c (with_body n after) NoMessage ≢ Unfinished →
        cond c (with_body n (after ++ more)) NoMessage
        ≡ grown (cond c (with_body n after) NoMessage) more
    fits false k = refl
    fits true k = body (leb n (length after)) refl k

-- what `next` tells stays told, where these bytes follow
abbrev Stays : (next : Option ℕ → List ℕ → AtFront) → (more : List ℕ) → Type 0
Stays next more =
    (o : Option ℕ) (l : List ℕ) → next o l ≢ Unfinished →
    next o (l ++ more) ≡ grown (next o l) more

after_line-grows : (next : Option ℕ → List ℕ → AtFront) (more : List ℕ) (before : Option ℕ)
    (line after : List ℕ) → Stays next more → after_line next before line after ≢ Unfinished →
    after_line next before line (after ++ more) ≡ grown (after_line next before line after) more
after_line-grows next more before [] after each h = after_header-grows before after more h
after_line-grows next more before (b ∷ line) after each h =
    each (length_after before (b ∷ line)) after h

-- bytes with no line end are unfinished, or too many
long-grows : (next : Option ℕ → List ℕ → AtFront) (more : List ℕ) (before : Option ℕ)
    (bytes : List ℕ) → position (λ c. c == 10) bytes ≡ None →
    by_line_end next before None bytes ≢ Unfinished →
    by_line_end next before (position (λ c. c == 10) (bytes ++ more)) (bytes ++ more)
    ≡ grown (by_line_end next before None bytes) more
long-grows next more before bytes e h = at (leb (length bytes) 256) refl h
  where
    at : (c : Bool) → leb (length bytes) 256 ≡ c → cond c Unfinished NoMessage ≢ Unfinished →
        by_line_end next before (position (λ c. c == 10) (bytes ++ more)) (bytes ++ more)
        ≡ grown (cond c Unfinished NoMessage) more
    at true t k = absurd (k refl)
    at false t k =
        let long : 256 < length bytes = grind (arith, nat_tests) in
        let whole : length (bytes ++ more) ≡ length bytes + length more =
        length-append bytes more in
        let far : length bytes ≤ feed_place (bytes ++ more) =
        feed_after bytes more (place_missed (feed_place bytes) (length bytes) e) in
        too_long next before (feed_place (bytes ++ more)) (length (bytes ++ more)) (bytes ++ more)
        (omega arith) (omega arith)

line-grows : (next : Option ℕ → List ℕ → AtFront) (more : List ℕ) (before : Option ℕ) (end : ℕ)
    (bytes : List ℕ) → Stays next more → position (λ c. c == 10) bytes ≡ Some end →
    by_line_end next before (Some end) bytes ≢ Unfinished →
    by_line_end next before (position (λ c. c == 10) (bytes ++ more)) (bytes ++ more)
    ≡ grown (by_line_end next before (Some end) bytes) more
line-grows next more before end bytes each e h =
    let g = feed_grows bytes more end e in
    let all : List ℕ = bytes ++ more in
    let tell : Option ℕ → AtFront = λ p. by_line_end next before p all in
    let rest : List ℕ → List ℕ → AtFront =
    λ l after. cond (leb end 256) (after_line next before (without_return l) after) NoMessage in
    let found : tell (position (λ c. c == 10) all) ≡ tell (Some end) = ap tell g.0 in
    let front : take end all ≡ take end bytes =
    take-append-le end bytes more (omega (arith, g.1)) in
    let back : drop (end + 1) all ≡ drop (end + 1) bytes ++ more =
    drop-append-le (end + 1) bytes more (omega (arith, g.1)) in
    let same : tell (Some end) ≡ rest (take end bytes) (drop (end + 1) bytes ++ more) =
    ap (λ (l : List ℕ). rest l (drop (end + 1) all)) front ∙ ap (rest (take end bytes)) back in
    found ∙ same ∙ at (without_return (take end bytes)) (drop (end + 1) bytes) (leb end 256) h
  where
    at : (line after : List ℕ) (c : Bool) →
        cond c (after_line next before line after) NoMessage ≢ Unfinished →
        cond c (after_line next before line (after ++ more)) NoMessage
        ≡ grown (cond c (after_line next before line after) NoMessage) more
    at line after false k = refl
    at line after true k = after_line-grows next more before line after each k

by_line_end-grows : (next : Option ℕ → List ℕ → AtFront) (more : List ℕ) (before end : Option ℕ)
    (bytes : List ℕ) → Stays next more → position (λ c. c == 10) bytes ≡ end →
    by_line_end next before end bytes ≢ Unfinished →
    by_line_end next before (position (λ c. c == 10) (bytes ++ more)) (bytes ++ more)
    ≡ grown (by_line_end next before end bytes) more
by_line_end-grows next more before None bytes each e h = long-grows next more before bytes e h
by_line_end-grows next more before (Some end) bytes each e h =
    line-grows next more before end bytes each e h

pub in_header-grows : (lines : ℕ) (before : Option ℕ) (bytes more : List ℕ) →
    in_header lines before bytes ≢ Unfinished →
    in_header lines before (bytes ++ more) ≡ grown (in_header lines before bytes) more
unfolding in_header
in_header-grows zero before bytes more h = refl
in_header-grows (suc n) before bytes more h =
    by_line_end-grows (in_header n) more before (position (λ c. c == 10) bytes) bytes
    (λ o l. in_header-grows n o l more) refl h
