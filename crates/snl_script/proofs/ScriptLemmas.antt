-- The words of a line, and the first line of the bytes of a script.
use Rattle.std.proofs.Common.{◌≡◌, ℕ, suc, ◌+◌, ◌-◌, ◌<◌, ◌≤◌, min, List, [], ◌∷◌, ◌++◌, length, take, drop, Bool, true, false, not, cond, ltb, leb, Option, Some, None, refl, sym, ap, ◌∙◌, subst, codes, arith, length-append, length-drop, position, ◌==◌}
use Rattle.std.proofs.lemmas.Bool.{le-leb}
use Rattle.std.proofs.lemmas.Bool.Decides.{nat_tests}
use Rattle.std.proofs.lemmas.List.{append-nil, drop_all, drop-drop, drop-append-le, length-take, take-append-le}
use Rattle.std.proofs.lemmas.List.Splits.{slice_split_first}
use Rattle.std.specs.List.{onto_first, position_or_len, slice_split}
use Rattle.std.specs.Str.{bytes_eq}
use Rattle.snl_script.specs.declared.script.Front.{Front}
use Rattle.snl_script.specs.declared.script.Front.TheVariants.{Short, Malformed, Whole}
use Rattle.snl_script.specs.declared.script.Heading.{Heading}
use Rattle.snl_script.specs.declared.script.Heading.TheVariants.{Check, List as Listing, Work, Edit}
use Rattle.snl_script.specs.Front.{IsBegun, IsFront, IsFrontAfter, IsOpen, request_of, unfinished}
use Rattle.snl_script.specs.Script.{Edits, Unknown, Then, closed, edit_of, edit_with, headed, heading_of, lined, lone, next_of, number_of, words_of}
use Rattle.snl_facts.specs.Positions.{place_found, place_missed, place_at}
use Rattle.snl_facts.specs.Feeds.{feed_place, feed_inside, feed_beyond}
use Rattle.std.proofs.lemmas.Option.{cond_some}

-- a line with no space is one word
pub words_of-none : (line : List ℕ) → position (λ b. b == 32) line ≡ None → words_of line ≡ line ∷ []
words_of-none line h = one line (place_missed (position_or_len (λ b. b == 32) line) (length line) h)
  where
    split : (c : Bool) (x : ℕ) (xs : List ℕ) → (length xs ≤ position_or_len (λ b. b == 32) xs → slice_split (λ b. b == 32) xs ≡ xs ∷ []) → suc (length xs) ≤ cond (not c) (1 + position_or_len (λ b. b == 32) xs) 0 → cond c ([] ∷ slice_split (λ b. b == 32) xs) (onto_first x (slice_split (λ b. b == 32) xs)) ≡ (x ∷ xs) ∷ []
    split true x xs more h = absurd (omega arith)
    split false x xs more h = ap (onto_first x) (more (omega arith))

    one : (xs : List ℕ) → length xs ≤ position_or_len (λ b. b == 32) xs → slice_split (λ b. b == 32) xs ≡ xs ∷ []
    one [] h = refl
    one (x ∷ xs) h = split (x == 32) x xs (one xs) h

-- the first word ends at the first space
pub words_of-some : (line : List ℕ) (end : ℕ) → position (λ b. b == 32) line ≡ Some end → words_of line ≡ take end line ∷ words_of (drop (end + 1) line)
words_of-some line end h =
    let at = place_found (position_or_len (λ b. b == 32) line) (length line) end h in
    let at_end : position_or_len (λ b. b == 32) line ≡ end = at.0 in
    let inside : position_or_len (λ b. b == 32) line < length line = omega (arith, at.0, at.1) in
    let split : slice_split (λ b. b == 32) line ≡ take (position_or_len (λ b. b == 32) line) line ∷ slice_split (λ b. b == 32) (drop (position_or_len (λ b. b == 32) line + 1) line) = slice_split_first (λ b. b == 32) line 0 inside in
    split ∙ ap (λ (e : ℕ). take e line ∷ words_of (drop (e + 1) line)) at_end

-- a line has a word, if an empty one
one_word : (line : List ℕ) → (word : List ℕ) × (words : List (List ℕ)) × (words_of line ≡ word ∷ words)
one_word [] = ([], [], refl)
one_word (b ∷ bytes) = split (b == 32)
  where
    onto : (parts : List (List ℕ)) → (word : List ℕ) × (words : List (List ℕ)) × (onto_first b parts ≡ word ∷ words)
    onto [] = (b ∷ [], [], refl)
    onto (p ∷ ps) = (b ∷ p, ps, refl)

    split : (c : Bool) → (word : List ℕ) × (words : List (List ℕ)) × (cond c ([] ∷ slice_split (λ x. x == 32) bytes) (onto_first b (slice_split (λ x. x == 32) bytes)) ≡ word ∷ words)
    split true = ([], slice_split (λ x. x == 32) bytes, refl)
    split false = onto (slice_split (λ x. x == 32) bytes)

-- an edit has no fourth word
pub edit_of_more : (a b c more : List ℕ) → edit_of (a ∷ b ∷ c ∷ words_of more) ≡ None
edit_of_more a b c more = let w = one_word more in ap (λ (l : List (List ℕ)). edit_of (a ∷ b ∷ c ∷ l)) w.2

-- a lone command has no second word
pub lone_more : (heading : Heading) (more : List ℕ) → lone heading (words_of more) ≡ None
lone_more heading more = let w = one_word more in ap (lone heading) w.2

-- some bytes begin with their first line
pub next_of-lined : (bytes : List ℕ) → 0 < length bytes → next_of bytes ≡ lined (position (λ c. c == 10) bytes) bytes
next_of-lined [] h = absurd (omega arith)
next_of-lined (b ∷ bytes) h = refl

unfinished-some : (bytes : List ℕ) → 0 < length bytes → unfinished bytes ≡ Unknown
unfinished-some [] h = absurd (omega arith)
unfinished-some (b ∷ bytes) h = refl

-- the line at the front of the bytes, which ends within 80 bytes
pub next_of-line : (n : ℕ) (bytes more : List ℕ) (end : ℕ) → n ≤ 81 → position (λ c. c == 10) (take n bytes) ≡ Some end → next_of (bytes ++ more) ≡ headed (heading_of (words_of (take end bytes))) (drop (end + 1) bytes ++ more)
next_of-line n bytes more end few h =
    let at = place_found (feed_place (take n bytes)) (length (take n bytes)) end h in
    let short : end < 81 = omega (arith, at.1, length-take n bytes) in
    let inside : end < length bytes = omega (arith, at.1, length-take n bytes) in
    let place : feed_place (bytes ++ more) ≡ end = feed_inside n bytes more (omega (arith, at.0, at.1)) ∙ at.0 in
    let long : length (bytes ++ more) ≡ length bytes + length more = length-append bytes more in
    let found : position (λ c. c == 10) (bytes ++ more) ≡ Some end = place_at (feed_place (bytes ++ more)) (length (bytes ++ more)) (omega arith) ∙ ap Some place in
    let line : lined (Some end) (bytes ++ more) ≡ headed (heading_of (words_of (take end (bytes ++ more)))) (drop (end + 1) (bytes ++ more)) = rw (le-leb end 80 (omega arith)) refl in
    next_of-lined (bytes ++ more) (omega arith) ∙ ap (λ (o : Option ℕ). lined o (bytes ++ more)) found ∙ line ∙
    ap (λ (l : List ℕ). headed (heading_of (words_of l)) (drop (end + 1) (bytes ++ more))) (take-append-le end bytes more (omega arith)) ∙
    ap (λ (l : List ℕ). headed (heading_of (words_of (take end bytes))) l) (drop-append-le (end + 1) bytes more (omega arith))

-- a line of more than 80 bytes is no command
pub next_of-long : (n : ℕ) (bytes more : List ℕ) → n ≡ min (length bytes) 81 → position (λ c. c == 10) (take n bytes) ≡ None → 80 < length bytes → next_of (bytes ++ more) ≡ Unknown
next_of-long n bytes more few h long =
    let none = place_missed (feed_place (take n bytes)) (length (take n bytes)) h in
    let size : length (take n bytes) ≡ min n (length bytes) = length-take n bytes in
    let after = feed_beyond n bytes more none in
    let whole : length (bytes ++ more) ≡ length bytes + length more = length-append bytes more in
    next_of-lined (bytes ++ more) (omega arith) ∙ too_long (feed_place (bytes ++ more)) (length (bytes ++ more)) (bytes ++ more) (omega arith)
  where
    too_long : (a m : ℕ) (all : List ℕ) → 80 < a → lined (cond (ltb a m) (Some a) None) all ≡ Unknown
    too_long a m all big = split (ltb a m)
      where
        big_test : leb a 80 ≡ false
        big_test = grind (arith, nat_tests)

        split : (b : Bool) → lined (cond b (Some a) None) all ≡ Unknown
        split true = rw big_test refl
        split false = refl

-- an edit puts in at most 2,097,152 bytes
edit_with-few : (a b c : Option ℕ) (start stop len : ℕ) → edit_with a b c ≡ Some (Edit start stop len) → len ≤ 2097152
edit_with-few None b c start stop len h = cc
edit_with-few (Some x) None c start stop len h = cc
edit_with-few (Some x) (Some y) None start stop len h = cc
edit_with-few (Some x) (Some y) (Some z) start stop len h =
    let p = cond_some (leb z 2097152) (Edit x y z) (Edit start stop len) h in
    let same : z ≡ len = let e = p.1 in cc in
    let within : leb z 2097152 ≡ true = p.0 in
    grind (arith, nat_tests)

edit_of-few : (words : List (List ℕ)) (start stop len : ℕ) → edit_of words ≡ Some (Edit start stop len) → len ≤ 2097152
edit_of-few [] start stop len h = cc
edit_of-few (a ∷ []) start stop len h = cc
edit_of-few (a ∷ b ∷ []) start stop len h = cc
edit_of-few (a ∷ b ∷ c ∷ []) start stop len h = edit_with-few (number_of a) (number_of b) (number_of c) start stop len h
edit_of-few (a ∷ b ∷ c ∷ d ∷ rest) start stop len h = cc

lone-few : (heading : Heading) (words : List (List ℕ)) (start stop len : ℕ) → (heading ≡ Edit start stop len → ⊥) → lone heading words ≡ Some (Edit start stop len) → len ≤ 2097152
lone-few heading [] start stop len other h = absurd (other cc)
lone-few heading (w ∷ words) start stop len other h = cc

heading_of-few : (words : List (List ℕ)) (start stop len : ℕ) → heading_of words ≡ Some (Edit start stop len) → len ≤ 2097152
heading_of-few [] start stop len h = cc
heading_of-few (word ∷ words) start stop len h = by (bytes_eq word (codes "check")) (bytes_eq word (codes "list")) (bytes_eq word (codes "work")) (bytes_eq word (codes "edit")) h
  where
    by : (check list work edit : Bool) → cond check (lone Check words) (cond list (lone Listing words) (cond work (lone Work words) (cond edit (edit_of words) None))) ≡ Some (Edit start stop len) → len ≤ 2097152
    by true list work edit e = lone-few Check words start stop len (λ x. cc) e
    by false true work edit e = lone-few Listing words start stop len (λ x. cc) e
    by false false true edit e = lone-few Work words start stop len (λ x. cc) e
    by false false false true e = edit_of-few words start stop len e
    by false false false false e = cc

-- the bytes of an edit aren't all there with their LF
open-unknown : (heading : Option Heading) (after : List ℕ) → IsOpen heading after → headed heading after ≡ Unknown
open-unknown None after h = absurd h
open-unknown (Some Check) after h = absurd h
open-unknown (Some Listing) after h = absurd h
open-unknown (Some Work) after h = absurd h
open-unknown (Some (Edit start stop len)) after h = ap (closed (Edits start stop (take len after))) (drop_all len after h)

open-few : (words : List (List ℕ)) (after : List ℕ) → IsOpen (heading_of words) after → length after ≤ 2097152
open-few words after h = by (heading_of words) refl h
  where
    by : (o : Option Heading) → heading_of words ≡ o → IsOpen o after → length after ≤ 2097152
    by None e k = absurd k
    by (Some Check) e k = absurd k
    by (Some Listing) e k = absurd k
    by (Some Work) e k = absurd k
    by (Some (Edit start stop len)) e k = let few = heading_of-few words start stop len e in omega arith

-- what is at the front of the bytes, from what comes after their line
pub IsFront-after : (n : ℕ) (bytes : List ℕ) (end : ℕ) (heading : Option Heading) (front : Front) → n ≤ 81 → position (λ c. c == 10) (take n bytes) ≡ Some end → heading ≡ heading_of (words_of (take end bytes)) → IsFrontAfter heading (end + 1) (drop (end + 1) bytes) front → IsFront bytes front
IsFront-after n bytes end heading Short few h is f =
    let at = place_found (feed_place (take n bytes)) (length (take n bytes)) end h in
    let inside : end < length bytes = omega (arith, at.1, length-take n bytes) in
    let rest : length (drop (end + 1) bytes) ≡ length bytes - (end + 1) = length-drop (end + 1) bytes in
    let begun : IsOpen (heading_of (words_of (take end bytes))) (drop (end + 1) bytes) = subst (λ (o : Option Heading). IsOpen o (drop (end + 1) bytes)) is f in
    let most : length (drop (end + 1) bytes) ≤ 2097152 = open-few (words_of (take end bytes)) (drop (end + 1) bytes) begun in
    let short : end ≤ 80 = omega (arith, at.1, length-take n bytes) in
    let place : feed_place bytes ≡ end = ap feed_place (sym (append-nil bytes)) ∙ feed_inside n bytes [] (omega (arith, at.0, at.1)) ∙ at.0 in
    let found : position (λ c. c == 10) bytes ≡ Some end = place_at (feed_place bytes) (length bytes) (omega arith) ∙ ap Some place in
    record {
      next = ap next_of (sym (append-nil bytes)) ∙ next_of-line n bytes [] end few h ∙ ap (λ (o : Option Heading). headed o (drop (end + 1) bytes ++ [])) (sym is) ∙ ap (headed heading) (append-nil (drop (end + 1) bytes)) ∙ open-unknown heading (drop (end + 1) bytes) f ∙ sym (unfinished-some bytes (omega arith));
      begun = subst (λ (o : Option ℕ). IsBegun o bytes) (sym found) (short, begun);
      few = omega arith;
    }
IsFront-after n bytes end heading Malformed few h is f = λ more. next_of-line n bytes more end few h ∙ ap (λ (o : Option Heading). headed o (drop (end + 1) bytes ++ more)) (sym is) ∙ f more
IsFront-after n bytes end heading (Whole command len) few h is f =
    let at = place_found (feed_place (take n bytes)) (length (take n bytes)) end h in
    let inside : end < length bytes = omega (arith, at.1, length-take n bytes) in
    let rest : length (drop (end + 1) bytes) ≡ length bytes - (end + 1) = length-drop (end + 1) bytes in
    let from : end + 1 ≤ len = f.from in
    let within : len ≤ end + 1 + length (drop (end + 1) bytes) = f.inside in
    let both : drop (len - (end + 1)) (drop (end + 1) bytes) ≡ drop len bytes = drop-drop (len - (end + 1)) (end + 1) bytes ∙ ap (λ (k : ℕ). drop k bytes) (omega arith) in
    record {
      some = omega arith;
      inside = omega arith;
      next = λ more. next_of-line n bytes more end few h ∙ ap (λ (o : Option Heading). headed o (drop (end + 1) bytes ++ more)) (sym is) ∙ f.next_is more ∙ ap (λ (l : List ℕ). Then (request_of command) (l ++ more)) both;
    }
