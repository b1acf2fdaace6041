-- A command that is whole is the first, whatever follows it.
use Rattle.std.proofs.Common.{◌≡◌, ℕ, ◌+◌, ◌-◌, ◌≤◌, List, [], ◌∷◌, ◌++◌, length, take, drop, Bool, true, false, cond, leb, Option, Some, None, refl, ap, ◌∙◌, arith, length-drop, position, ◌==◌}
use Rattle.std.proofs.lemmas.List.{drop-append-le, take-append-le}
use Rattle.snl_script.specs.declared.script.Heading.{Heading}
use Rattle.snl_script.specs.declared.script.Heading.TheVariants.{Check, List as Listing, Work, Edit}
use Rattle.snl_script.specs.Script.{Request, Next, Unknown, Then, closed, headed, heading_of, lined, next_of, words_of}
use Rattle.snl_facts.specs.Feeds.{feed_grows}

closed-grows : (request : Request) (bytes more left : List ℕ) (next : Request) → closed request bytes ≡ Then next left → closed request (bytes ++ more) ≡ Then next (left ++ more)
closed-grows request [] more left next h = cc
closed-grows request (b ∷ bytes) more left next h = split (b == 10) h
  where
    split : (c : Bool) → cond c (Then request bytes) Unknown ≡ Then next left → cond c (Then request (bytes ++ more)) Unknown ≡ Then next (left ++ more)
    split true e = cc
    split false e = cc

-- the bytes of an edit are there where an LF closes them
edit-room : (request : Request) (len : ℕ) (bytes left : List ℕ) (next : Request) → closed request (drop len bytes) ≡ Then next left → len ≤ length bytes
edit-room request len bytes left next h = some (drop len bytes) h (length-drop len bytes)
  where
    some : (l : List ℕ) → closed request l ≡ Then next left → length l ≡ length bytes - len → len ≤ length bytes
    some [] e size = cc
    some (b ∷ l) e size = omega arith

headed-grows : (heading : Option Heading) (bytes more left : List ℕ) (next : Request) → headed heading bytes ≡ Then next left → headed heading (bytes ++ more) ≡ Then next (left ++ more)
headed-grows None bytes more left next h = cc
headed-grows (Some Check) bytes more left next h = cc
headed-grows (Some Listing) bytes more left next h = cc
headed-grows (Some Work) bytes more left next h = cc
headed-grows (Some (Edit start stop len)) bytes more left next h =
    let room : len ≤ length bytes = edit-room _ len bytes left next h in
    rw (take-append-le len bytes more room, drop-append-le len bytes more room) (closed-grows _ (drop len bytes) more left next h)

-- a whole command stays the first, whatever follows
pub next_of-grows : (bytes more left : List ℕ) (request : Request) → next_of bytes ≡ Then request left → next_of (bytes ++ more) ≡ Then request (left ++ more)
next_of-grows [] more left request h = cc
next_of-grows (b ∷ bytes) more left request h = at (position (λ c. c == 10) (b ∷ bytes)) refl h
  where
    all : List ℕ
    all = b ∷ bytes

    at : (o : Option ℕ) → position (λ c. c == 10) (b ∷ bytes) ≡ o → lined o (b ∷ bytes) ≡ Then request left → next_of ((b ∷ bytes) ++ more) ≡ Then request (left ++ more)
    at None e k = cc
    at (Some end) e k = short (leb end 80) refl k
      where
        line : List ℕ → List ℕ → Next
        line l m = headed (heading_of (words_of l)) m

        short : (c : Bool) → leb end 80 ≡ c → cond c (headed (heading_of (words_of (take end (b ∷ bytes)))) (drop (end + 1) (b ∷ bytes))) Unknown ≡ Then request left → next_of ((b ∷ bytes) ++ more) ≡ Then request (left ++ more)
        short false t w = cc
        short true t w =
            let grown = feed_grows (b ∷ bytes) more end e in
            let front : take end ((b ∷ bytes) ++ more) ≡ take end (b ∷ bytes) = take-append-le end (b ∷ bytes) more (omega (arith, grown.1)) in
            let back : drop (end + 1) ((b ∷ bytes) ++ more) ≡ drop (end + 1) (b ∷ bytes) ++ more = drop-append-le (end + 1) (b ∷ bytes) more (omega (arith, grown.1)) in
            let found : next_of ((b ∷ bytes) ++ more) ≡ lined (Some end) ((b ∷ bytes) ++ more) = ap (λ (o : Option ℕ). lined o ((b ∷ bytes) ++ more)) grown.0 in
            let here : lined (Some end) ((b ∷ bytes) ++ more) ≡ headed (heading_of (words_of (take end ((b ∷ bytes) ++ more)))) (drop (end + 1) ((b ∷ bytes) ++ more)) = rw t refl in
            let same : headed (heading_of (words_of (take end ((b ∷ bytes) ++ more)))) (drop (end + 1) ((b ∷ bytes) ++ more)) ≡ headed (heading_of (words_of (take end (b ∷ bytes)))) (drop (end + 1) (b ∷ bytes) ++ more) = ap (λ (l : List ℕ). headed (heading_of (words_of l)) (drop (end + 1) ((b ∷ bytes) ++ more))) front ∙ ap (λ (l : List ℕ). headed (heading_of (words_of (take end (b ∷ bytes)))) l) back in
            found ∙ here ∙ same ∙ headed-grows (heading_of (words_of (take end (b ∷ bytes)))) (drop (end + 1) (b ∷ bytes)) more left request w
