-- No piece ends between two bytes that aren't ASCII.
use Rattle.std.proofs.Common.{◌≡◌, ◌==◌, ℕ, zero, suc, ◌+◌, ◌<◌, ◌&&◌, Bool, true, false, List, [], ◌∷◌, length, nat_lt, Option, Some, None, inl, inr, refl, ap, subst, ◌∙◌, arith, eqb-true}
use Rattle.std.specs.Prelude.{slice_index, if◌then◌else◌}
use Rattle.std.specs.List.{list_all, list_any}
use Rattle.std.specs.Option.{option_map}
use Rattle.std.specs.Str.{bytes_eq}
use Rattle.std.proofs.lemmas.Bool.{and_parts, or_cases}
use Rattle.std.proofs.lemmas.Bool.Decides.{nat_tests}
use Rattle.snl_facts.specs.Bytes.{same_bytes}
use Rattle.snl_lex.specs.declared.piece.Class.{Class}
use Rattle.snl_lex.specs.declared.piece.Class.TheVariants as class
use Rattle.snl_lex.specs.declared.alphabet.Start.{Start}
use Rattle.snl_lex.specs.declared.alphabet.Start.TheVariants.{Blank, Letter, Digit, Dot, Hash, Slash, Percent, Quote, Apostrophe, Sign, Stray}
use Rattle.snl_lex.specs.Alphabet.{is_digit, is_in_line, is_letter, is_punctuator, is_stray, is_white, is_word_byte, start_of}
use Rattle.snl_lex.specs.Kinds.{Entry, has, punctuators, punctuators_of_2, punctuators_of_3, spellings}
use Rattle.snl_lex.specs.Numbers.{is_sign, number_joins}
use Rattle.snl_lex.specs.Pieces.{closed_by, closed_piece, dot_piece, first_piece, longest_punctuator, number_piece, percent_piece, piece_by, piece_length, punctuator_piece, run_piece, slash_piece, string_joins, string_piece}
use Rattle.snl_lex.specs.Runs.{begins, close_of, run_by, run_of}

-- after so many bytes the list ends, or the last of them is ASCII, or the next one is
pub data Ends : List ℕ → ℕ → Type 0 where
  at_end : (u : List ℕ) → Ends u (length u)
  after_ascii : (u : List ℕ) (m : ℕ) → m < length u → slice_index u m < 128 → Ends u (suc m)
  before_ascii : (u : List ℕ) (n : ℕ) → n < length u → slice_index u n < 128 → Ends u n

-- one byte more before it
ends_later : (x : ℕ) (xs : List ℕ) (n : ℕ) → Ends xs n → Ends (x ∷ xs) (suc n)
ends_later x xs _ (at_end _) = at_end (x ∷ xs)
ends_later x xs _ (after_ascii _ m less ascii) =
    after_ascii (x ∷ xs) (suc m) (omega (arith, less)) ascii
ends_later x xs n (before_ascii _ _ less ascii) =
    before_ascii (x ∷ xs) (suc n) (omega (arith, less)) ascii

ends_at : (u : List ℕ) (m n : ℕ) → Ends u m → m ≡ n → Ends u n
ends_at u m n ends same = subst (Ends u) same ends

-- ---- bytes that aren't ASCII

any_told : (P : List ℕ → Bool) (s : List ℕ) (ms : List (List ℕ)) → list_all P ms ≡ true →
    list_any (bytes_eq s) ms ≡ true → P s ≡ true
any_told P s [] h e = cc
any_told P s (m ∷ ms) h e =
    let parts = and_parts (P m) (list_all P ms) h in
    elim (or_cases (bytes_eq s m) (list_any (bytes_eq s) ms) e) [
      | inl here ↦ ap P (same_bytes s m here) ∙ parts.0
      | inr later ↦ any_told P s ms parts.1 later
    ]

-- each byte is ASCII, and none is NUL
abbrev prints : List ℕ → Bool
prints s = list_all (λ b. nat_lt 0 b && nat_lt b 128) s

has_told : (es : List Entry) (s : List ℕ) → list_all prints (spellings es) ≡ true →
    has es s ≡ true → prints s ≡ true
has_told es s all h = any_told prints s (spellings es) all h

punctuator_ascii : (b : ℕ) → is_punctuator (b ∷ []) ≡ true → b < 128
unfolding is_punctuator
punctuator_ascii b h =
    let p = has_told punctuators (b ∷ []) refl h in grind (arith, nat_tests, p)

white_ascii : (b : ℕ) → is_white b ≡ true → b < 128
unfolding is_white
white_ascii b h = grind (arith, nat_tests)

letter_ascii : (b : ℕ) → is_letter b ≡ true → b < 128
unfolding is_letter
letter_ascii b h = grind (arith, nat_tests)

digit_ascii : (b : ℕ) → is_digit b ≡ true → b < 128
unfolding is_digit
digit_ascii b h = grind (arith, nat_tests)

word_ascii : (b : ℕ) → is_word_byte b ≡ true → b < 128
unfolding is_word_byte
word_ascii b h =
    elim (or_cases (is_letter b) (is_digit b) h) [
      | inl letter ↦ letter_ascii b letter
      | inr digit ↦ digit_ascii b digit
    ]

number_ascii : (before : List ℕ) (b : ℕ) → number_joins before b ≡ true → b < 128
unfolding number_joins is_sign
number_ascii before b h = grind (arith, nat_tests, word_ascii b)

line_ascii : (b : ℕ) → is_in_line b ≡ false → b < 128
unfolding is_in_line
line_ascii b h = grind (arith, nat_tests)

-- a byte that is not stray
stray_ascii : (b : ℕ) → is_stray b ≡ false → b < 128
unfolding is_stray
stray_ascii b h =
    grind (arith, nat_tests, white_ascii b, letter_ascii b, digit_ascii b, punctuator_ascii b)

-- a byte that isn't ASCII begins a faulty piece
begins_ascii : (b : ℕ) → (start_of b ≡ Stray → ⊥) → b < 128
unfolding start_of
begins_ascii b other =
    grind (arith, nat_tests, white_ascii b, letter_ascii b, digit_ascii b, punctuator_ascii b, other)

-- ---- runs

-- all bytes that pass are ASCII
run_of_ascii : (passes : ℕ → Bool) → ((b : ℕ) → passes b ≡ true → b < 128) → (x : ℕ)
    (xs : List ℕ) → x < 128 → Ends (x ∷ xs) (1 + run_of passes xs)
run_of_ascii passes h x [] ascii = at_end (x ∷ [])
run_of_ascii passes h x (y ∷ ys) ascii =
    by (passes y) refl (λ e. run_of_ascii passes h y ys (h y e))
  where
    by : (b : Bool) → passes y ≡ b →
        (passes y ≡ true → Ends (y ∷ ys) (1 + run_of passes ys)) →
        Ends (x ∷ y ∷ ys) (1 + (if b then suc (run_of passes ys) else 0))
    by true e rest =
        ends_at (x ∷ y ∷ ys) _ _ (ends_later x (y ∷ ys) _ (rest e)) (omega arith)
    by false e rest = after_ascii (x ∷ y ∷ ys) 0 (omega arith) ascii

-- the next byte after all that pass is ASCII
run_of_stops : (passes : ℕ → Bool) → ((b : ℕ) → passes b ≡ false → b < 128) → (x : ℕ)
    (xs : List ℕ) → Ends (x ∷ xs) (1 + run_of passes xs)
run_of_stops passes h x [] = at_end (x ∷ [])
run_of_stops passes h x (y ∷ ys) = by (passes y) refl (run_of_stops passes h y ys)
  where
    by : (b : Bool) → passes y ≡ b → Ends (y ∷ ys) (1 + run_of passes ys) →
        Ends (x ∷ y ∷ ys) (1 + (if b then suc (run_of passes ys) else 0))
    by true e rest = ends_at (x ∷ y ∷ ys) _ _ (ends_later x (y ∷ ys) _ rest) (omega arith)
    by false e rest = before_ascii (x ∷ y ∷ ys) 1 (omega arith) (h y e)

-- the same of a run whose bytes depend on those before them
run_by_ascii : (joins : List ℕ → ℕ → Bool) →
    ((before : List ℕ) (b : ℕ) → joins before b ≡ true → b < 128) → (before : List ℕ) (x : ℕ)
    (xs : List ℕ) → x < 128 → Ends (x ∷ xs) (1 + run_by joins before xs)
run_by_ascii joins h before x [] ascii = at_end (x ∷ [])
run_by_ascii joins h before x (y ∷ ys) ascii =
    by (joins before y) refl (λ e. run_by_ascii joins h (y ∷ before) y ys (h before y e))
  where
    by : (b : Bool) → joins before y ≡ b →
        (joins before y ≡ true → Ends (y ∷ ys) (1 + run_by joins (y ∷ before) ys)) →
        Ends (x ∷ y ∷ ys) (1 + (if b then suc (run_by joins (y ∷ before) ys) else 0))
    by true e rest =
        ends_at (x ∷ y ∷ ys) _ _ (ends_later x (y ∷ ys) _ (rest e)) (omega arith)
    by false e rest = after_ascii (x ∷ y ∷ ys) 0 (omega arith) ascii

run_by_stops : (joins : List ℕ → ℕ → Bool) →
    ((before : List ℕ) (b : ℕ) → joins before b ≡ false → b < 128) → (before : List ℕ) (x : ℕ)
    (xs : List ℕ) → Ends (x ∷ xs) (1 + run_by joins before xs)
run_by_stops joins h before x [] = at_end (x ∷ [])
run_by_stops joins h before x (y ∷ ys) =
    by (joins before y) refl (run_by_stops joins h (y ∷ before) y ys)
  where
    by : (b : Bool) → joins before y ≡ b →
        Ends (y ∷ ys) (1 + run_by joins (y ∷ before) ys) →
        Ends (x ∷ y ∷ ys) (1 + (if b then suc (run_by joins (y ∷ before) ys) else 0))
    by true e rest = ends_at (x ∷ y ∷ ys) _ _ (ends_later x (y ∷ ys) _ rest) (omega arith)
    by false e rest = before_ascii (x ∷ y ∷ ys) 1 (omega arith) (h before y e)

-- ---- what ends with a byte or a pair

read_inside : (u : List ℕ) (k : ℕ) → 0 < slice_index u k → k < length u
read_inside [] k some = absurd (omega (arith, some))
read_inside (x ∷ xs) zero some = omega arith
read_inside (x ∷ xs) (suc k) some = omega (arith, read_inside xs k some)

closes_ascii : (a b : ℕ) → b < 128 → (ys : List ℕ) (count : ℕ) → close_of a b ys ≡ Some count →
    Ends ys count
closes_ascii a b ascii [] count h = absurd cc
closes_ascii a b ascii (x ∷ xs) count h =
    by (x == a && begins b xs) refl (close_of a b xs) refl (closes_ascii a b ascii xs) h
  where
    pair : (ys : List ℕ) → begins b ys ≡ true → Ends (x ∷ ys) 2
    pair [] e = absurd cc
    pair (y ∷ ys) e =
        let is : y ≡ b = eqb-true y b e in
        after_ascii (x ∷ y ∷ ys) 1 (omega arith) (omega (arith, is, ascii))

    by : (c : Bool) → (x == a && begins b xs) ≡ c → (o : Option ℕ) → close_of a b xs ≡ o →
        ((k : ℕ) → close_of a b xs ≡ Some k → Ends xs k) →
        (if c then Some 2 else option_map suc o) ≡ Some count → Ends (x ∷ xs) count
    by true e o is rest h =
        let two : 2 ≡ count = cc in
        subst (Ends (x ∷ xs)) two (pair xs (and_parts (x == a) (begins b xs) e).1)
    by false e None is rest h = absurd cc
    by false e (Some k) is rest h =
        let more : suc k ≡ count = cc in
        subst (Ends (x ∷ xs)) more (ends_later x xs k (rest k is))

closed_ends : (kind : Class) (a b x y : ℕ) (ys : List ℕ) → b < 128 →
    Ends (x ∷ y ∷ ys) (closed_piece kind a b (x ∷ y ∷ ys)).1
closed_ends kind a b x y ys ascii = by (close_of a b ys) refl
  where
    by : (o : Option ℕ) → close_of a b ys ≡ o →
        Ends (x ∷ y ∷ ys) (closed_by kind (length (x ∷ y ∷ ys)) o).1
    by None e = at_end (x ∷ y ∷ ys)
    by (Some count) e =
        ends_at (x ∷ y ∷ ys) _ _
        (ends_later x (y ∷ ys) _ (ends_later y ys count (closes_ascii a b ascii ys count e)))
        (omega arith)

string_stops : (quote : ℕ) → quote < 128 → (before : List ℕ) (b : ℕ) →
    string_joins quote before b ≡ false → b < 128
string_stops quote ascii before b h = grind (arith, nat_tests, ascii, h)

string_ends : (kind : Class) (quote x : ℕ) (xs : List ℕ) → quote < 128 → 0 < quote →
    Ends (x ∷ xs) (string_piece kind quote (x ∷ xs)).1
string_ends kind quote x xs ascii some =
    by (slice_index (x ∷ xs) count == quote) refl
  where
    count : ℕ
    count = 1 + run_by (string_joins quote) [] xs

    by : (b : Bool) → (slice_index (x ∷ xs) count == quote) ≡ b →
        Ends (x ∷ xs) (if◌then◌else◌ {A = Class × ℕ} b (kind, 1 + count) (class.Bad, count)).1
    by true e =
        let is : slice_index (x ∷ xs) count ≡ quote = eqb-true _ quote e in
        ends_at (x ∷ xs) _ _
        (after_ascii (x ∷ xs) count (read_inside (x ∷ xs) count (omega (arith, is, some)))
        (omega (arith, is, ascii))) (omega arith)
    by false e = run_by_stops (string_joins quote) (string_stops quote ascii) [] x xs

-- ---- punctuators

punctuator_ends : (x : ℕ) (xs : List ℕ) → x < 128 → Ends (x ∷ xs) (longest_punctuator (x ∷ xs))
unfolding longest_punctuator
punctuator_ends x xs ascii =
    by (has punctuators_of_3 (x ∷ b ∷ c ∷ [])) refl (has punctuators_of_2 (x ∷ b ∷ [])) refl
  where
    b : ℕ
    b = slice_index (x ∷ xs) 1

    c : ℕ
    c = slice_index (x ∷ xs) 2

    third : has punctuators_of_3 (x ∷ b ∷ c ∷ []) ≡ true → (0 < c) × (c < 128)
    third h =
        let p = has_told punctuators_of_3 (x ∷ b ∷ c ∷ []) refl h in
        (grind (arith, nat_tests, p), grind (arith, nat_tests, p))

    second : has punctuators_of_2 (x ∷ b ∷ []) ≡ true → (0 < b) × (b < 128)
    second h =
        let p = has_told punctuators_of_2 (x ∷ b ∷ []) refl h in
        (grind (arith, nat_tests, p), grind (arith, nat_tests, p))

    by : (m : Bool) → has punctuators_of_3 (x ∷ b ∷ c ∷ []) ≡ m →
        (n : Bool) → has punctuators_of_2 (x ∷ b ∷ []) ≡ n →
        Ends (x ∷ xs) (if m then 3 else (if n then 2 else 1))
    by true h n k =
        let t = third h in
        after_ascii (x ∷ xs) 2 (read_inside (x ∷ xs) 2 t.0) t.1
    by false h true k =
        let s = second k in
        after_ascii (x ∷ xs) 1 (read_inside (x ∷ xs) 1 s.0) s.1
    by false h false k = after_ascii (x ∷ xs) 0 (omega arith) ascii

-- ---- pieces

slash_ends : (x : ℕ) (xs : List ℕ) → x < 128 → Ends (x ∷ xs) (slash_piece (x ∷ xs)).1
slash_ends x xs ascii =
    by (slice_index (x ∷ xs) 1 == 47) (slice_index (x ∷ xs) 1 == 42) refl
  where
    comment : (ys : List ℕ) → (slice_index (x ∷ ys) 1 == 42) ≡ true →
        Ends (x ∷ ys) (closed_piece class.Comment 42 47 (x ∷ ys)).1
    comment [] e = absurd cc
    comment (y ∷ ys) e = closed_ends class.Comment 42 47 x y ys (omega arith)

    by : (b c : Bool) → (slice_index (x ∷ xs) 1 == 42) ≡ c →
        Ends (x ∷ xs) (if b then run_piece class.Comment is_in_line (x ∷ xs)
        else if c then closed_piece class.Comment 42 47 (x ∷ xs)
        else punctuator_piece (x ∷ xs)).1
    by true c e = run_of_stops is_in_line line_ascii x xs
    by false true e = comment xs e
    by false false e = punctuator_ends x xs ascii

percent_ends : (x : ℕ) (xs : List ℕ) → x < 128 → Ends (x ∷ xs) (percent_piece (x ∷ xs)).1
percent_ends x xs ascii =
    by (slice_index (x ∷ xs) 1 == 37) (slice_index (x ∷ xs) 1 == 123) refl
  where
    code : (ys : List ℕ) → (slice_index (x ∷ ys) 1 == 123) ≡ true →
        Ends (x ∷ ys) (closed_piece class.CCode 125 37 (x ∷ ys)).1
    code [] e = absurd cc
    code (y ∷ ys) e = closed_ends class.CCode 125 37 x y ys (omega arith)

    by : (b c : Bool) → (slice_index (x ∷ xs) 1 == 123) ≡ c →
        Ends (x ∷ xs) (if b then run_piece class.CCode is_in_line (x ∷ xs)
        else if c then closed_piece class.CCode 125 37 (x ∷ xs)
        else punctuator_piece (x ∷ xs)).1
    by true c e = run_of_stops is_in_line line_ascii x xs
    by false true e = code xs e
    by false false e = punctuator_ends x xs ascii

number_ends : (x : ℕ) (xs : List ℕ) → x < 128 → Ends (x ∷ xs) (number_piece (x ∷ xs)).1
number_ends x xs ascii = run_by_ascii number_joins number_ascii (x ∷ []) x xs ascii

dot_ends : (x : ℕ) (xs : List ℕ) → x < 128 → Ends (x ∷ xs) (dot_piece (x ∷ xs)).1
dot_ends x xs ascii = by (is_digit (slice_index (x ∷ xs) 1))
  where
    by : (b : Bool) →
        Ends (x ∷ xs) (if b then number_piece (x ∷ xs) else punctuator_piece (x ∷ xs)).1
    by true = number_ends x xs ascii
    by false = punctuator_ends x xs ascii

by_start : (s : Start) (x : ℕ) (xs : List ℕ) → ((s ≡ Stray → ⊥) → x < 128) →
    Ends (x ∷ xs) (piece_by s (x ∷ xs)).1
by_start Blank x xs ascii = run_of_ascii is_white white_ascii x xs (ascii (λ e. absurd cc))
by_start Letter x xs ascii = run_of_ascii is_word_byte word_ascii x xs (ascii (λ e. absurd cc))
by_start Digit x xs ascii = number_ends x xs (ascii (λ e. absurd cc))
by_start Dot x xs ascii = dot_ends x xs (ascii (λ e. absurd cc))
by_start Hash x xs ascii = run_of_stops is_in_line line_ascii x xs
by_start Slash x xs ascii = slash_ends x xs (ascii (λ e. absurd cc))
by_start Percent x xs ascii = percent_ends x xs (ascii (λ e. absurd cc))
by_start Quote x xs ascii = string_ends class.Text 34 x xs (omega arith) (omega arith)
by_start Apostrophe x xs ascii = string_ends class.CharLit 39 x xs (omega arith) (omega arith)
by_start Sign x xs ascii = punctuator_ends x xs (ascii (λ e. absurd cc))
by_start Stray x xs ascii = run_of_stops is_stray stray_ascii x xs

pub piece_ends_so : (x : ℕ) (xs : List ℕ) → Ends (x ∷ xs) (piece_length (x ∷ xs))
unfolding first_piece
piece_ends_so x xs = by_start (start_of x) x xs (begins_ascii x)
