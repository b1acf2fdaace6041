-- Headers and messages read back.
use Rattle.std.proofs.Common.{◌≡◌, ◌≢◌, ℕ, ◌+◌, ◌-◌, ◌<◌, ◌≤◌, ◌^◌, List, [], ◌∷◌, ◌++◌, length, take, drop, Bool, true, not, Option, Some, None, refl, sym, ap, ◌∙◌, codes, arith, lit<, append_assoc, length-append, position, ◌==◌}
use Rattle.std.specs.Prelude.{decimal, slice_get}
use Rattle.std.proofs.lemmas.Bool.{le-leb, and_parts}
use Rattle.std.proofs.lemmas.Bool.Decides.{nat_tests}
use Rattle.std.proofs.lemmas.Fmt.{decimal_is_IsNumeral, length-decimal-le}
use Rattle.std.proofs.lemmas.List.Folds.{list_all-append}
use Rattle.std.proofs.lemmas.List.{drop_at, take_at}
use Rattle.std.specs.Char.{is_ascii_digit}
use Rattle.std.specs.List.{list_all, position_or_len}
use Rattle.snl_frame.specs.Frame.{AtFront, Message, after_header, after_line, at_front, by_line_end, given_or, in_header, length_after, number_of, without_return, without_return_by}
use Rattle.snl_frame.specs.Framed.{AreFields, IsField, framed, given_by, header_text}
use Rattle.snl_frame.proofs.Lines.{in_header-first}
use Rattle.snl_facts.specs.Positions.{place_at}
use Rattle.snl_facts.specs.Digits.{are_digits}

-- ---- the number of a length

-- how a length is written
record IsWritten (n : ℕ) : Type 0 where
  few : length (decimal n) ≤ 19
  digits : list_all is_ascii_digit (decimal n) ≡ true
  value : number_of (decimal n) ≡ Some n

length_written : (n : ℕ) → n ≤ 67108864 → IsWritten n
length_written n most =
    let fits : n < 2 ^ 64 = omega arith in
    let small : n < 10 ^ 8 = omega arith in
    let numeral = decimal_is_IsNumeral n fits in
    let some : 1 ≤ length (decimal n) = omega (arith, numeral.0.0) in
    let short : length (decimal n) ≤ 19 =
    omega (arith, length-decimal-le 8 n (lit< tt) small fits) in
    let all : list_all is_ascii_digit (decimal n) ≡ true = are_digits (decimal n) numeral.0.1 in
    record {
      few = short;
      digits = all;
      value =
          rw (
            le-leb 1 (length (decimal n)) some,
            le-leb (length (decimal n)) 19 short,
            all,
            numeral.1,
          ) refl;
    }

-- ---- lines

-- none of the bytes is an LF
abbrev without_feed : List ℕ → Bool
without_feed bytes = list_all (λ c. not (c == 10)) bytes

digit_without : (c : ℕ) → is_ascii_digit c ≡ true → not (c == 10) ≡ true
digit_without c h = grind (arith, nat_tests)

digits_without : (word : List ℕ) → list_all is_ascii_digit word ≡ true → without_feed word ≡ true
digits_without [] h = refl
digits_without (c ∷ cs) h =
    let p = and_parts (is_ascii_digit c) (list_all is_ascii_digit cs) h in
    rw (digit_without c p.0, digits_without cs p.1) refl

without_feed-append : (xs ys : List ℕ) → without_feed xs ≡ true → without_feed ys ≡ true →
    without_feed (xs ++ ys) ≡ true
without_feed-append xs ys h k = list_all-append (λ c. not (c == 10)) xs ys ∙ rw (h, k) refl

-- the first LF ends the line
line_end : (line rest : List ℕ) → without_feed line ≡ true →
    position_or_len (λ c. c == 10) (line ++ 10 ∷ rest) ≡ length line
line_end [] rest h = refl
line_end (c ∷ line) rest h =
    let p = and_parts (not (c == 10)) (without_feed line) h in
    rw p.0 (omega (arith, line_end line rest p.1))

-- some bytes of a header begin with a line
line_read : (lines : ℕ) (before : Option ℕ) (line after : List ℕ) → lines ≢ 0 →
    without_feed line ≡ true → length line ≤ 256 →
    in_header lines before (line ++ 10 ∷ after)
    ≡ after_line (in_header (lines - 1)) before (without_return line) after
line_read lines before line after some clean short =
    let all : List ℕ = line ++ 10 ∷ after in
    let size : length all ≡ length line + (1 + length after) =
    length-append line (10 ∷ after) ∙ omega arith in
    let place : position_or_len (λ c. c == 10) all ≡ length line = line_end line after clean in
    let found : position (λ c. c == 10) all ≡ Some (length line) =
    place_at (position_or_len (λ c. c == 10) all) (length all) (omega arith) ∙ ap Some place in
    let front : take (length line) all ≡ line = take_at line (10 ∷ after) (length line) refl in
    let back : drop (length line + 1) all ≡ after =
    ap (drop (length line + 1)) (sym (append_assoc line (10 ∷ []) after))
    ∙ drop_at (line ++ 10 ∷ []) after (length line + 1) (length-append line (10 ∷ [])) in
    let here : by_line_end (in_header (lines - 1)) before (Some (length line)) all
    ≡ after_line (in_header (lines - 1)) before (without_return (take (length line) all))
    (drop (length line + 1) all) =
    rw (le-leb (length line) 256 short) refl in
    let rest : List ℕ → List ℕ → AtFront =
    λ l more. after_line (in_header (lines - 1)) before (without_return l) more in
    in_header-first lines before all some
    ∙ ap (λ (o : Option ℕ). by_line_end (in_header (lines - 1)) before o all) found
    ∙ here
    ∙ ap (λ (l : List ℕ). rest l (drop (length line + 1) all)) front
    ∙ ap (rest line) back

-- the last byte
last_of : (line : List ℕ) (b : ℕ) → slice_get (line ++ b ∷ []) (length line) ≡ Some b
last_of [] b = refl
last_of (c ∷ line) b = last_of line b

-- a CR at the end goes
without_return-return : (line : List ℕ) → without_return (line ++ 13 ∷ []) ≡ line
without_return-return line =
    let all : List ℕ = line ++ 13 ∷ [] in
    let size : length all - 1 ≡ length line = omega (arith, length-append line (13 ∷ [])) in
    let last : slice_get all (length all - 1) ≡ Some 13 =
    ap (λ (i : ℕ). slice_get all i) size ∙ last_of line 13 in
    ap (λ (o : Option ℕ). without_return_by o all) last
    ∙ ap (λ (n : ℕ). take n all) size
    ∙ take_at line (13 ∷ []) (length line) refl

-- ---- headers

-- a line that isn't empty is a field
filled : (next : Option ℕ → List ℕ → AtFront) (before : Option ℕ) (line after : List ℕ) →
    1 ≤ length line → after_line next before line after ≡ next (length_after before line) after
filled next before [] after some = absurd (omega arith)
filled next before (b ∷ line) after some = refl

field_line : (field after rest : List ℕ) →
    (field ++ (13 ∷ 10 ∷ after)) ++ rest ≡ (field ++ 13 ∷ []) ++ 10 ∷ (after ++ rest)
field_line field after rest = simp append_assoc

pub header_read : (fields : List (List ℕ)) (lines : ℕ) (before : Option ℕ) (rest : List ℕ) →
    length fields < lines → AreFields fields →
    in_header lines before (header_text fields ++ rest)
    ≡ after_header (given_by before fields) rest
header_read [] lines before rest room are =
    line_read lines before (13 ∷ []) rest (omega arith) refl (omega arith)
header_read (field ∷ fields) lines before rest room are =
    let after : List ℕ = header_text fields ++ rest in
    let clean : without_feed (field ++ 13 ∷ []) ≡ true =
    without_feed-append field (13 ∷ []) are.0.clean refl in
    let short : length (field ++ 13 ∷ []) ≤ 256 =
    omega (arith, length-append field (13 ∷ []), are.0.few) in
    ap (λ (l : List ℕ). in_header lines before l) (field_line field (header_text fields) rest)
    ∙ line_read lines before (field ++ 13 ∷ []) after (omega arith) clean short
    ∙ ap (λ (l : List ℕ). after_line (in_header (lines - 1)) before l after)
    (without_return-return field)
    ∙ filled (in_header (lines - 1)) before field after are.0.some
    ∙ header_read fields (lines - 1) (length_after before field) rest (omega arith) are.1

-- ---- frames

-- a header of one field, an empty line and a body
in_lines : (name digits body more : List ℕ) →
    (name ++ (digits ++ (13 ∷ 10 ∷ 13 ∷ 10 ∷ (body ++ [])))) ++ more
    ≡ ((name ++ digits) ++ 13 ∷ 10 ∷ 13 ∷ 10 ∷ []) ++ (body ++ more)
in_lines name digits body more = simp append_assoc

body_read : (body more : List ℕ) → length body ≤ 67108864 →
    after_header (Some (length body)) (body ++ more) ≡ Message body more
body_read body more few =
    let inside : length body ≤ length (body ++ more) = omega (arith, length-append body more) in
    rw (
      le-leb (length body) 67108864 few,
      le-leb (length body) (length (body ++ more)) inside,
      take_at body more (length body) refl,
      drop_at body more (length body) refl,
    ) refl

pub reads_back : (body more : List ℕ) → length body ≤ 67108864 →
    at_front (framed body ++ more) ≡ Message body more
reads_back body more few =
    let written = length_written (length body) few in
    let name : List ℕ = codes "Content-Length: " in
    let digits : List ℕ = decimal (length body) in
    let size : length (name ++ digits) ≡ 16 + length digits = length-append name digits in
    let is_field : IsField (name ++ digits) = record {
      some = omega (arith, size);
      few = omega (arith, size, written.few);
      clean = digits_without digits written.digits;
    } in
    ap (λ (l : List ℕ). in_header 8 None l) (in_lines name digits body more)
    ∙ header_read ((name ++ digits) ∷ []) 8 None (body ++ more) (omega arith) (is_field, tt)
    ∙ ap (λ (o : Option ℕ). after_header (given_or o None) (body ++ more)) written.value
    ∙ body_read body more few
