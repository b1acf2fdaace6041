-- The bytes of a command are that command.
use Rattle.std.proofs.Common.{◌≡◌, ℕ, zero, suc, ◌+◌, ◌<◌, ◌≤◌, ◌^◌, List, [], ◌∷◌, ◌++◌, length, take, drop, Bool, true, false, not, cond, Option, Some, refl, sym, ap, ◌∙◌, codes, arith, lit<, lit≤, append_assoc, length-append, position, ◌==◌}
use Rattle.std.specs.Prelude.{decimal, replicate}
use Rattle.std.proofs.lemmas.Bool.{le-leb, and_parts}
use Rattle.std.proofs.lemmas.Bool.Decides.{nat_tests}
use Rattle.std.proofs.lemmas.Fmt.{decimal_is_IsNumeral}
use Rattle.std.proofs.lemmas.List.Folds.{list_all-append}
use Rattle.std.proofs.lemmas.List.{drop_at, take_at}
use Rattle.std.specs.Char.{is_ascii_digit}
use Rattle.std.specs.List.{concat, list_all, onto_first, position_or_len}
use Rattle.std.specs.Str.Parse.{digits_value}
use Rattle.snl_script.specs.declared.script.Heading.{Heading}
use Rattle.snl_script.specs.declared.script.Heading.TheVariants.{Edit}
use Rattle.snl_script.specs.Script.{Request, Checks, Lists, Works, Edits, Then, edit_with, headed, heading_of, lined, next_of, number_of, words_of}
use Rattle.snl_script.proofs.ScriptLemmas.{next_of-lined}
use Rattle.snl_script.specs.Spelled.{IsEdit, IsNumeral, IsSpelled}
use Rattle.snl_facts.specs.Positions.{place_at}
use Rattle.snl_facts.specs.Digits.{are_digits}

-- a byte that is no space goes before the first word
onto : (c : ℕ) (line word : List ℕ) (words : List (List ℕ)) → not (c == 32) ≡ true → words_of line ≡ word ∷ words → words_of (c ∷ line) ≡ (c ∷ word) ∷ words
onto c line word words other h = by (c == 32) other
  where
    by : (b : Bool) → not b ≡ true → cond b ([] ∷ words_of line) (onto_first c (words_of line)) ≡ (c ∷ word) ∷ words
    by true e = cc
    by false e = ap (onto_first c) h

-- ---- numbers

zeros-digits : (n : ℕ) (word : List ℕ) → list_all is_ascii_digit word ≡ true → list_all is_ascii_digit (replicate n 48 ++ word) ≡ true
zeros-digits zero word h = h
zeros-digits (suc n) word h = zeros-digits n word h

zeros-value : (n : ℕ) (word : List ℕ) → digits_value 10 (replicate n 48 ++ word) ≡ digits_value 10 word
zeros-value zero word = refl
zeros-value (suc n) word = zeros-value n word

zeros-length : (n : ℕ) (word : List ℕ) → length word ≤ length (replicate n 48 ++ word)
zeros-length n word = omega (arith, length-append (replicate n 48) word)

-- what a numeral is: 1 to 19 digits of this value
record HasValue (word : List ℕ) (number : ℕ) : Type 0 where
  some : 1 ≤ length word
  few : length word ≤ 19
  digits : list_all is_ascii_digit word ≡ true
  value : digits_value 10 word ≡ number

numeral_value : (number : ℕ) (word : List ℕ) → IsNumeral number word → HasValue word number
numeral_value number word is =
    let fits : number < 2 ^ 64 = let small : number < 10 ^ 19 = is.small in omega arith in
    let plain = decimal_is_IsNumeral number fits in
    let plain_digits : list_all is_ascii_digit (decimal number) ≡ true = are_digits (decimal number) plain.0.1 in
    record {
      some = omega (arith, ap length is.digits, zeros-length is.zeros (decimal number), plain.0.0);
      few = is.few;
      digits = ap (list_all is_ascii_digit) is.digits ∙ zeros-digits is.zeros (decimal number) plain_digits;
      value = ap (digits_value 10) is.digits ∙ zeros-value is.zeros (decimal number) ∙ plain.1;
    }

number_read : (word : List ℕ) (number : ℕ) → HasValue word number → number_of word ≡ Some number
number_read word number h = rw (le-leb 1 (length word) h.some, le-leb (length word) 19 h.few, h.digits, h.value) refl

-- ---- a line and its words

-- none of the bytes is this one
abbrev without : ℕ → List ℕ → Bool
without byte bytes = list_all (λ c. not (c == byte)) bytes

digit_without : (byte c : ℕ) → byte < 48 → is_ascii_digit c ≡ true → not (c == byte) ≡ true
digit_without byte c low h = grind (arith, nat_tests)

digits_without : (byte : ℕ) (word : List ℕ) → byte < 48 → list_all is_ascii_digit word ≡ true → without byte word ≡ true
digits_without byte [] low h = refl
digits_without byte (c ∷ cs) low h =
    let p = and_parts (is_ascii_digit c) (list_all is_ascii_digit cs) h in
    rw (digit_without byte c low p.0, digits_without byte cs low p.1) refl

without-append : (byte : ℕ) (xs ys : List ℕ) → without byte xs ≡ true → without byte ys ≡ true → without byte (xs ++ ys) ≡ true
without-append byte xs ys h k = list_all-append (λ c. not (c == byte)) xs ys ∙ rw (h, k) refl

-- the first LF ends the line
feed_after : (line rest : List ℕ) → without 10 line ≡ true → position_or_len (λ c. c == 10) (line ++ 10 ∷ rest) ≡ length line
feed_after [] rest h = refl
feed_after (c ∷ line) rest h =
    let p = and_parts (not (c == 10)) (without 10 line) h in
    rw p.0 (omega (arith, feed_after line rest p.1))

-- a word goes up to the first space
word_before : (word rest : List ℕ) → without 32 word ≡ true → words_of (word ++ 32 ∷ rest) ≡ word ∷ words_of rest
word_before [] rest h = refl
word_before (c ∷ word) rest h = onto c (word ++ 32 ∷ rest) word (words_of rest) (and_parts (not (c == 32)) (without 32 word) h).0 (word_before word rest (and_parts (not (c == 32)) (without 32 word) h).1)

word_last : (word : List ℕ) → without 32 word ≡ true → words_of word ≡ word ∷ []
word_last [] h = refl
word_last (c ∷ word) h = onto c word word [] (and_parts (not (c == 32)) (without 32 word) h).0 (word_last word (and_parts (not (c == 32)) (without 32 word) h).1)

-- some bytes begin with a line, which is a heading
line_read : (line after : List ℕ) → without 10 line ≡ true → length line ≤ 80 → next_of (line ++ 10 ∷ after) ≡ headed (heading_of (words_of line)) after
line_read line after clean short =
    let all : List ℕ = line ++ 10 ∷ after in
    let size : length all ≡ length line + (1 + length after) = length-append line (10 ∷ after) ∙ omega arith in
    let place : position_or_len (λ c. c == 10) all ≡ length line = feed_after line after clean in
    let found : position (λ c. c == 10) all ≡ Some (length line) = place_at (position_or_len (λ c. c == 10) all) (length all) (omega arith) ∙ ap Some place in
    let front : take (length line) all ≡ line = take_at line (10 ∷ after) (length line) refl in
    let back : drop (length line + 1) all ≡ after =
    ap (drop (length line + 1)) (sym (append_assoc line (10 ∷ []) after)) ∙ drop_at (line ++ 10 ∷ []) after (length line + 1) (length-append line (10 ∷ [])) in
    next_of-lined all (omega arith) ∙ ap (λ (o : Option ℕ). lined o all) found ∙ rw (le-leb (length line) 80 short) refl ∙
    ap (λ (l : List ℕ). headed (heading_of (words_of l)) (drop (length line + 1) all)) front ∙ ap (λ (l : List ℕ). headed (heading_of (words_of line)) l) back

-- ---- commands

-- `edit START END LEN`
abbrev edit_line : (start stop len : List ℕ) → List ℕ
edit_line start stop len = codes "edit " ++ (start ++ (32 ∷ (stop ++ (32 ∷ len))))

edit_words : (start stop len : List ℕ) → without 32 start ≡ true → without 32 stop ≡ true → without 32 len ≡ true → words_of (edit_line start stop len) ≡ codes "edit" ∷ start ∷ stop ∷ len ∷ []
edit_words start stop len h k l =
    word_before (codes "edit") (start ++ (32 ∷ (stop ++ (32 ∷ len)))) refl ∙ ap (λ (ws : List (List ℕ)). codes "edit" ∷ ws) (word_before start (stop ++ (32 ∷ len)) h) ∙
    ap (λ (ws : List (List ℕ)). codes "edit" ∷ start ∷ ws) (word_before stop len k) ∙ ap (λ (ws : List (List ℕ)). codes "edit" ∷ start ∷ stop ∷ ws) (word_last len l)

edit_clean : (start stop len : List ℕ) → without 10 start ≡ true → without 10 stop ≡ true → without 10 len ≡ true → without 10 (edit_line start stop len) ≡ true
edit_clean start stop len h k l = without-append 10 start (32 ∷ (stop ++ (32 ∷ len))) h (without-append 10 stop (32 ∷ len) k l)

edit_size : (start stop len : List ℕ) → length start ≤ 19 → length stop ≤ 19 → length len ≤ 19 → length (edit_line start stop len) ≤ 80
edit_size start stop len h k l = omega (arith, length-append start (32 ∷ (stop ++ (32 ∷ len))), length-append stop (32 ∷ len))

edit_heading : (start stop len : List ℕ) (s t l : ℕ) → number_of start ≡ Some s → number_of stop ≡ Some t → number_of len ≡ Some l → l ≤ 2097152 → heading_of (codes "edit" ∷ start ∷ stop ∷ len ∷ []) ≡ Some (Edit s t l)
edit_heading start stop len s t l a b c few = edit_with-is (number_of start) (number_of stop) (number_of len) a b c
  where
    edit_with-is : (x y z : Option ℕ) → x ≡ Some s → y ≡ Some t → z ≡ Some l → edit_with x y z ≡ Some (Edit s t l)
    edit_with-is x y z h j k = rw (h, j, k, le-leb l 2097152 few) refl

-- the bytes that an edit puts in, closed by an LF
edit_closed : (start stop : ℕ) (new more : List ℕ) → headed (Some (Edit start stop (length new))) (new ++ 10 ∷ more) ≡ Then (Edits start stop new) more
edit_closed start stop new more = rw (take_at new (10 ∷ more) (length new) refl, drop_at new (10 ∷ more) (length new) refl) refl

edit_spelled : (start stop len new more : List ℕ) → concat (codes "edit " ∷ start ∷ codes " " ∷ stop ∷ codes " " ∷ len ∷ codes "\n" ∷ new ∷ codes "\n" ∷ []) ++ more ≡ edit_line start stop len ++ 10 ∷ (new ++ 10 ∷ more)
edit_spelled start stop len new more = simp append_assoc

edit_back : (start stop : ℕ) (new bytes more : List ℕ) → IsEdit start stop new bytes → next_of (bytes ++ more) ≡ Then (Edits start stop new) more
edit_back start stop new bytes more is =
    let a = numeral_value start is.start_word is.start_is in
    let b = numeral_value stop is.stop_word is.stop_is in
    let c = numeral_value (length new) is.len_word is.len_is in
    let clean = edit_clean is.start_word is.stop_word is.len_word (digits_without 10 is.start_word (lit< tt) a.digits) (digits_without 10 is.stop_word (lit< tt) b.digits) (digits_without 10 is.len_word (lit< tt) c.digits) in
    let words = edit_words is.start_word is.stop_word is.len_word (digits_without 32 is.start_word (lit< tt) a.digits) (digits_without 32 is.stop_word (lit< tt) b.digits) (digits_without 32 is.len_word (lit< tt) c.digits) in
    let heading = edit_heading is.start_word is.stop_word is.len_word start stop (length new) (number_read is.start_word start a) (number_read is.stop_word stop b) (number_read is.len_word (length new) c) is.few in
    ap next_of (ap (λ (l : List ℕ). l ++ more) is.spelled ∙ edit_spelled is.start_word is.stop_word is.len_word new more) ∙
    line_read (edit_line is.start_word is.stop_word is.len_word) (new ++ 10 ∷ more) clean (edit_size is.start_word is.stop_word is.len_word a.few b.few c.few) ∙
    ap (λ (o : Option Heading). headed o (new ++ 10 ∷ more)) (ap heading_of words ∙ heading) ∙ edit_closed start stop new more

pub reads_back : (request : Request) (bytes more : List ℕ) → IsSpelled request bytes → next_of (bytes ++ more) ≡ Then request more
reads_back Checks bytes more is = ap (λ (l : List ℕ). next_of (l ++ more)) is ∙ line_read (codes "check") more refl (lit≤ tt)
reads_back Lists bytes more is = ap (λ (l : List ℕ). next_of (l ++ more)) is ∙ line_read (codes "list") more refl (lit≤ tt)
reads_back Works bytes more is = ap (λ (l : List ℕ). next_of (l ++ more)) is ∙ line_read (codes "work") more refl (lit≤ tt)
reads_back (Edits start stop new) bytes more is = edit_back start stop new bytes more is
