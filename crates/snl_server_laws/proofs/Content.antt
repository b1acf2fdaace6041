-- The content of a string of JSON is UTF-8 where the text is.
use Rattle.std.proofs.Common.{◌≡◌, ◌==◌, ℕ, zero, suc, ◌+◌, ◌*◌, ◌<◌, ◌≤◌, ◌&&◌, Bool, true, false, cond, nat_lt, List, [], ◌∷◌, ◌++◌, get_or, length, Option, None, Some, IsUtf8, inl, inr, refl, ap, sym, subst, ◌∙◌, arith, append-nil, length-append}
use Rattle.std.specs.Char.{IsScalar, digit_value, encode_utf8, is_digit}
use Rattle.std.specs.Option.{option_and_then}
use Rattle.std.specs.Str.{encode_utf8_all}
use Rattle.std.proofs.lemmas.Bool.{and_parts, cases_lt}
use Rattle.std.proofs.lemmas.Bool.Decides.{nat_tests}
use Rattle.std.proofs.lemmas.Str.{IsCharBoundary-after_ascii, IsUtf8-append, IsUtf8-drop, IsUtf8-encode, IsUtf8-from_ascii, IsUtf8-nil, encode_ascii, inside_one, length-encode, len_utf8_bounds}
use Rattle.json.specs.Ascii as ascii
use Rattle.json.specs.Text.{after_backslash, after_high, after_u, code_unit, content, is_high_surrogate, is_low_surrogate, plain, prepend, short_escape, surrogate_pair}

-- ---- texts by their first bytes

-- after an ASCII byte
pub utf8_tail : (x : ℕ) (xs : List ℕ) → IsUtf8 (x ∷ xs) → x < 128 → IsUtf8 xs
utf8_tail x xs utf8 small =
    IsUtf8-drop (x ∷ xs) 1 utf8 (IsCharBoundary-after_ascii (x ∷ xs) 0 utf8 (omega arith) small)

one_ascii : (x : ℕ) → x < 128 → IsUtf8 (x ∷ [])
one_ascii x small = IsUtf8-from_ascii (x ∷ []) (λ i. by i)
  where
    by : (i : ℕ) → get_or (x ∷ []) i 0 < 128
    by zero = small
    by (suc i) = omega arith

-- the character that a text begins with
record Begins (bs : List ℕ) : Type 0 where
  character : ℕ
  rest : List ℕ
  scalar : IsScalar character
  spelled : bs ≡ encode_utf8 character ++ rest
  utf8 : IsUtf8 rest

first_character : (x : ℕ) (xs : List ℕ) → IsUtf8 (x ∷ xs) → Begins (x ∷ xs)
first_character x xs ([], told) = absurd (grind (arith, told.1))
first_character x xs (c ∷ cs, told) =
    let parts = and_parts _ _ told.0 in
    record {
      character = c;
      rest = encode_utf8_all cs;
      scalar = parts.0;
      spelled = sym told.1;
      utf8 = (cs, (parts.1, refl));
    }

-- ---- bytes that aren't ASCII are taken as they are

wide_byte : (c : ℕ) → 128 ≤ c → (k : ℕ) → k < length (encode_utf8 c) →
    128 ≤ get_or (encode_utf8 c) k 0
wide_byte c wide k inside =
    elim (cases_lt (get_or (encode_utf8 c) k 0) 128) [
      | inr more ↦ more
      | inl small ↦
          let is : c ≡ get_or (encode_utf8 c) k 0 =
          inside_one c [] (encode_utf8 c) k (sym (append-nil (encode_utf8 c))) inside small in
          absurd (omega (arith, wide, small, is))
    ]

taken : (w rest : List ℕ) → ((k : ℕ) → k < length w → 128 ≤ get_or w k 0) →
    content plain (w ++ rest) ≡ prepend w (content plain rest)
unfolding content
taken [] rest wide = by (content plain rest)
  where
    by : (o : Option (List ℕ)) → o ≡ prepend [] o
    by None = refl
    by (Some s) = refl
taken (x ∷ w) rest wide =
    let large : 128 ≤ x = wide 0 (omega arith) in
    let step : content plain (x ∷ (w ++ rest)) ≡ prepend (x ∷ []) (content plain (w ++ rest)) =
    grind (arith, nat_tests, large) in
    step
    ∙ ap (prepend (x ∷ [])) (taken w rest (λ k inside. wide (suc k) (omega (arith, inside))))
    ∙ by (content plain rest)
  where
    by : (o : Option (List ℕ)) → prepend (x ∷ []) (prepend w o) ≡ prepend (x ∷ w) o
    by None = refl
    by (Some s) = refl

-- ---- escapes

-- what comes before a text
put_before : (bytes : List ℕ) (o : Option (List ℕ)) (s : List ℕ) → IsUtf8 bytes →
    ((t : List ℕ) → o ≡ Some t → IsUtf8 t) → prepend bytes o ≡ Some s → IsUtf8 s
put_before bytes None s utf8 rest h = absurd cc
put_before bytes (Some t) s utf8 rest h =
    let same : bytes ++ t ≡ s = cc in subst IsUtf8 same (IsUtf8-append bytes t utf8 (rest t refl))

short_ascii : (x c : ℕ) → short_escape x ≡ Some c → (x < 128) × (c < 128)
unfolding short_escape
short_ascii x c h = (grind (arith, nat_tests, h), grind (arith, nat_tests, h))

digit_small : (a : ℕ) → is_digit a 16 ≡ true → (a < 128) × (digit_value a < 16)
digit_small a h = (grind (arith, nat_tests, h), grind (arith, nat_tests, h))

record IsUnit (a b c d u : ℕ) : Type 0 where
  a_ascii : a < 128
  b_ascii : b < 128
  c_ascii : c < 128
  d_ascii : d < 128
  few : u < 65536

unit_is : (a b c d u : ℕ) → code_unit a b c d ≡ Some u → IsUnit a b c d u
unfolding code_unit
unit_is a b c d u =
    by (is_digit a 16) refl (is_digit b 16) refl (is_digit c 16) refl (is_digit d 16) refl
  where
    value : ℕ
    value = digit_value a * 4096 + digit_value b * 256 + digit_value c * 16 + digit_value d

    by : (p : Bool) → is_digit a 16 ≡ p → (q : Bool) → is_digit b 16 ≡ q →
        (r : Bool) → is_digit c 16 ≡ r → (t : Bool) → is_digit d 16 ≡ t →
        cond (p && q && r && t) (Some value) None ≡ Some u → IsUnit a b c d u
    by true ea true eb true ec true ed h =
        let is : value ≡ u = cc in
        let da = digit_small a ea in
        let db = digit_small b eb in
        let dc = digit_small c ec in
        let dd = digit_small d ed in
        record {
          a_ascii = da.0;
          b_ascii = db.0;
          c_ascii = dc.0;
          d_ascii = dd.0;
          few = omega (arith, is, da.1, db.1, dc.1, dd.1);
        }
    by false ea q eb r ec t ed h = absurd cc
    by true ea false eb r ec t ed h = absurd cc
    by true ea true eb false ec t ed h = absurd cc
    by true ea true eb true ec false ed h = absurd cc

-- a code unit that is in no pair, and one that is made of two
alone_scalar : (u : ℕ) → u < 65536 → is_high_surrogate u ≡ false → is_low_surrogate u ≡ false →
    IsScalar u
alone_scalar u few high low = grind (arith, nat_tests, few, high, low)

pair_scalar : (h l : ℕ) → is_high_surrogate h ≡ true → is_low_surrogate l ≡ true →
    IsScalar (surrogate_pair h l)
pair_scalar h l high low = grind (arith, nat_tests, high, low)

-- ---- all of it

-- texts with fewer bytes than this have content in UTF-8
abbrev Below : ℕ → Type 0
Below n = (xs : List ℕ) → length xs < n → IsUtf8 xs → (s : List ℕ) →
    content plain xs ≡ Some s → IsUtf8 s

after_pair : (n h : ℕ) → Below n → is_high_surrogate h ≡ true → (xs : List ℕ) →
    length xs < n → IsUtf8 xs → (s : List ℕ) → content (after_high h) xs ≡ Some s → IsUtf8 s
unfolding content
after_pair n h below high [] few utf8 s e = absurd cc
after_pair n h below high (x ∷ []) few utf8 s e = absurd cc
after_pair n h below high (x ∷ u ∷ []) few utf8 s e = absurd cc
after_pair n h below high (x ∷ u ∷ a ∷ []) few utf8 s e = absurd cc
after_pair n h below high (x ∷ u ∷ a ∷ b ∷ []) few utf8 s e = absurd cc
after_pair n h below high (x ∷ u ∷ a ∷ b ∷ c ∷ []) few utf8 s e = absurd cc
after_pair n h below high (x ∷ u ∷ a ∷ b ∷ c ∷ d ∷ xs) few utf8 s e =
    by ((x == ascii.backslash) && (u == ascii.lower_u)) refl (code_unit a b c d) refl e
  where
    rest : (l : ℕ) → (x == ascii.backslash) ≡ true → (u == ascii.lower_u) ≡ true →
        code_unit a b c d ≡ Some l → IsUtf8 xs
    rest l backslash letter unit =
        let is = unit_is a b c d l unit in
        utf8_tail d xs (utf8_tail c (d ∷ xs) (utf8_tail b (c ∷ d ∷ xs)
        (utf8_tail a (b ∷ c ∷ d ∷ xs) (utf8_tail u (a ∷ b ∷ c ∷ d ∷ xs)
        (utf8_tail x (u ∷ a ∷ b ∷ c ∷ d ∷ xs) utf8 (grind (arith, nat_tests, backslash)))
        (grind (arith, nat_tests, letter))) is.a_ascii) is.b_ascii) is.c_ascii) is.d_ascii

    low : (l : ℕ) → (x == ascii.backslash) ≡ true → (u == ascii.lower_u) ≡ true →
        code_unit a b c d ≡ Some l → (b' : Bool) → is_low_surrogate l ≡ b' →
        cond b' (prepend (encode_utf8 (surrogate_pair h l)) (content plain xs)) None ≡ Some s →
        IsUtf8 s
    low l backslash letter unit true is e =
        put_before (encode_utf8 (surrogate_pair h l)) (content plain xs) s
        (IsUtf8-encode (surrogate_pair h l) (pair_scalar h l high is))
        (below xs (omega (arith, few)) (rest l backslash letter unit)) e
    low l backslash letter unit false is e = absurd cc

    by : (p : Bool) → ((x == ascii.backslash) && (u == ascii.lower_u)) ≡ p → (o : Option ℕ) →
        code_unit a b c d ≡ o →
        cond p (option_and_then (λ l. cond (is_low_surrogate l)
        (prepend (encode_utf8 (surrogate_pair h l)) (content plain xs)) None) o) None ≡ Some s →
        IsUtf8 s
    by false begins o unit e = absurd cc
    by true begins None unit e = absurd cc
    by true begins (Some l) unit e =
        let parts = and_parts (x == ascii.backslash) (u == ascii.lower_u) begins in
        low l parts.0 parts.1 unit (is_low_surrogate l) refl e

after_letter : (n : ℕ) → Below n → (xs : List ℕ) → length xs < n → IsUtf8 xs → (s : List ℕ) →
    content after_u xs ≡ Some s → IsUtf8 s
unfolding content
after_letter n below [] few utf8 s e = absurd cc
after_letter n below (a ∷ []) few utf8 s e = absurd cc
after_letter n below (a ∷ b ∷ []) few utf8 s e = absurd cc
after_letter n below (a ∷ b ∷ c ∷ []) few utf8 s e = absurd cc
after_letter n below (a ∷ b ∷ c ∷ d ∷ xs) few utf8 s e = by (code_unit a b c d) refl e
  where
    rest : (u : ℕ) → code_unit a b c d ≡ Some u → IsUtf8 xs
    rest u unit =
        let is = unit_is a b c d u unit in
        utf8_tail d xs (utf8_tail c (d ∷ xs) (utf8_tail b (c ∷ d ∷ xs)
        (utf8_tail a (b ∷ c ∷ d ∷ xs) utf8 is.a_ascii) is.b_ascii) is.c_ascii) is.d_ascii

    choose : (u : ℕ) → code_unit a b c d ≡ Some u → (p : Bool) → is_high_surrogate u ≡ p →
        (q : Bool) → is_low_surrogate u ≡ q →
        cond p (content (after_high u) xs) (cond q None (prepend (encode_utf8 u) (content plain xs)))
        ≡ Some s → IsUtf8 s
    choose u unit true high q low e =
        after_pair n u below high xs (omega (arith, few)) (rest u unit) s e
    choose u unit false high true low e = absurd cc
    choose u unit false high false low e =
        put_before (encode_utf8 u) (content plain xs) s
        (IsUtf8-encode u (alone_scalar u (unit_is a b c d u unit).few high low))
        (below xs (omega (arith, few)) (rest u unit)) e

    by : (o : Option ℕ) → code_unit a b c d ≡ o →
        option_and_then (λ u. cond (is_high_surrogate u) (content (after_high u) xs)
        (cond (is_low_surrogate u) None (prepend (encode_utf8 u) (content plain xs)))) o ≡ Some s →
        IsUtf8 s
    by None unit e = absurd cc
    by (Some u) unit e = choose u unit (is_high_surrogate u) refl (is_low_surrogate u) refl e

after_escape : (n : ℕ) → Below n → (xs : List ℕ) → length xs < n → IsUtf8 xs → (s : List ℕ) →
    content after_backslash xs ≡ Some s → IsUtf8 s
unfolding content
after_escape n below [] few utf8 s e = absurd cc
after_escape n below (x ∷ xs) few utf8 s e = by (x == ascii.lower_u) refl (short_escape x) refl e
  where
    by : (p : Bool) → (x == ascii.lower_u) ≡ p → (o : Option ℕ) → short_escape x ≡ o →
        cond p (content after_u xs) (option_and_then (λ c. prepend (c ∷ []) (content plain xs)) o)
        ≡ Some s → IsUtf8 s
    by true letter o short e =
        after_letter n below xs (omega (arith, few))
        (utf8_tail x xs utf8 (grind (arith, nat_tests, letter))) s e
    by false letter None short e = absurd cc
    by false letter (Some c) short e =
        let is = short_ascii x c short in
        put_before (c ∷ []) (content plain xs) s (one_ascii c is.1)
        (below xs (omega (arith, few)) (utf8_tail x xs utf8 is.0)) e

-- at the first byte
at_first : (n : ℕ) → Below n → (x : ℕ) (xs : List ℕ) → length (x ∷ xs) < suc n →
    IsUtf8 (x ∷ xs) → (s : List ℕ) → content plain (x ∷ xs) ≡ Some s → IsUtf8 s
unfolding content
at_first n below x xs few utf8 s e =
    elim (cases_lt x 128) [
      | inl small ↦
          by small (x == ascii.quote) (x == ascii.backslash) (nat_lt x ascii.space) e
      | inr wide ↦ wide_first wide (first_character x xs utf8) e
    ]
  where
    by : x < 128 → (p q r : Bool) →
        cond p (Some []) (cond q (content after_backslash xs)
        (cond r None (prepend (x ∷ []) (content plain xs)))) ≡ Some s → IsUtf8 s
    by small true q r e = let none : [] ≡ s = cc in subst IsUtf8 none IsUtf8-nil
    by small false true r e =
        after_escape n below xs (omega (arith, few)) (utf8_tail x xs utf8 small) s e
    by small false false true e = absurd cc
    by small false false false e =
        put_before (x ∷ []) (content plain xs) s (one_ascii x small)
        (below xs (omega (arith, few)) (utf8_tail x xs utf8 small)) e

    wide_first : 128 ≤ x → Begins (x ∷ xs) → content plain (x ∷ xs) ≡ Some s → IsUtf8 s
    wide_first wide first e =
        let c : ℕ = first.character in
        let large : 128 ≤ c =
        elim (cases_lt c 128) [
          | inr more ↦ more
          | inl small ↦
              let same : x ∷ xs ≡ c ∷ first.rest =
              first.spelled ∙ ap (λ (l : List ℕ). l ++ first.rest) (encode_ascii c small) in
              let is : x ≡ c = cc in
              absurd (omega (arith, small, wide, is))
        ] in
        let some = len_utf8_bounds c in
        let many = length-append (encode_utf8 c) first.rest in
        let all : length (x ∷ xs) ≡ length (encode_utf8 c ++ first.rest) =
        ap (λ (l : List ℕ). length l) first.spelled in
        put_before (encode_utf8 c) (content plain first.rest) s (IsUtf8-encode c first.scalar)
        (below first.rest (omega (arith, few, some.0, many, all, length-encode c)) first.utf8)
        (sym (taken (encode_utf8 c) first.rest (wide_byte c large))
        ∙ sym (ap (content plain) first.spelled) ∙ e)

all_below : (n : ℕ) → Below n
unfolding content
all_below zero xs few utf8 s e = absurd (omega (arith, few))
all_below (suc n) [] few utf8 s e = absurd cc
all_below (suc n) (x ∷ xs) few utf8 s e = at_first n (all_below n) x xs few utf8 s e

pub content_utf8 : (xs s : List ℕ) → IsUtf8 xs → content plain xs ≡ Some s → IsUtf8 s
content_utf8 xs s utf8 e = all_below (suc (length xs)) xs (omega arith) utf8 s e
