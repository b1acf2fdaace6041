-- What is shown holds no character that is hidden, and printable ASCII is shown as it is.
use Rattle.std.proofs.Common.{◌≡◌, ◌≢◌, ℕ, suc, zero, ◌+◌, ◌-◌, ◌/◌, ◌%◌, ◌<◌, ◌≤◌, ◌⊎◌, inl, inr, List, [], ◌∷◌, ◌++◌, length, Bool, true, false, ◌==◌, ◌||◌, ◌&&◌, cond, Option, Some, None, refl, ap, arith, nat_lt, nat_le, codes}
use Rattle.std.specs.Prelude.{All, slice_index}
use Rattle.std.specs.Char.{digit_char}
use Rattle.std.specs.Int.{is_in_range}
use Rattle.std.proofs.lemmas.Bool.Decides.{nat_tests}
use Rattle.std.proofs.lemmas.List.Elements.{All-append, All-cons, All-head, All-nil, All-tail, All-take}
use Rattle.bstr.specs.Utf8.{Decoded, decoded, good}
use Rattle.snl_excerpt.specs.declared.glyph.Pen.{Pen}
use Rattle.snl_excerpt.specs.Glyphs.{byte_escape, char_escape, ends_line, glyph_of, is_hidden, shown_char, tab, text_width}
use Rattle.snl_excerpt.specs.Lines.{pen_after, pen_as, put_at, put_by, shown}
use Rattle.snl_excerpt.specs.Safe.{IsByte, IsNoCommand, IsPrintable, TurnsNothing}

-- ---- what is not hidden

or-left : (a b : Bool) → (a || b) ≡ false → a ≡ false
or-left true b h = h
or-left false b h = refl

or-right : (a b : Bool) → (a || b) ≡ false → b ≡ false
or-right true b h = cc
or-right false b h = h

outside : (low high c : ℕ) → is_in_range low high c ≡ false → (c < low) ⊎ (high < c)
outside low high c h = by_test (nat_le low c) (nat_le c high) refl refl h
  where
    by_test : (a b : Bool) → nat_le low c ≡ a → nat_le c high ≡ b → (a && b) ≡ false → (c < low) ⊎ (high < c)
    by_test false b la lb e = inl (grind (arith, nat_tests))
    by_test true false la lb e = inr (grind (arith, nat_tests))
    by_test true true la lb e = absurd (true-false e)
      where
        true-false : true ≡ false → ⊥
        true-false x = cc

-- the tests of a hidden character, each by itself
record NotHidden (c : ℕ) : Type 0 where
  control : 0x1F < c
  delete : (c < 0x7F) ⊎ (0x9F < c)
  letter : c ≢ 0x61C
  marks : (c < 0x200B) ⊎ (0x200F < c)
  embeddings : (c < 0x2028) ⊎ (0x202E < c)
  isolates : (c < 0x2060) ⊎ (0x206F < c)

not_hidden : (c : ℕ) → is_hidden c ≡ false → NotHidden c
not_hidden c h8 =
    let h7 = or-left _ _ h8 in
    let h6 = or-left _ _ h7 in
    let h5 = or-left _ _ h6 in
    let h4 = or-left _ _ h5 in
    let h3 = or-left _ _ h4 in
    let h2 = or-left _ _ h3 in
    let letter_test : (c == 0x61C) ≡ false = or-right _ _ h4 in
    record {
      control = (let out : (c < 0) ⊎ (0x1F < c) = outside 0 0x1F c (or-left _ _ h2) in omega arith);
      delete = outside 0x7F 0x9F c (or-right _ _ h2);
      letter = grind (arith, nat_tests);
      marks = outside 0x200B 0x200F c (or-right _ _ h5);
      embeddings = outside 0x2028 0x202E c (or-right _ _ h6);
      isolates = outside 0x2060 0x206F c (or-right _ _ h7);
    }

-- ---- each element, by recursion

abbrev Each : (P : ℕ → Type 0) → List ℕ → Type 0
Each P [] = Unit {0}
Each P (x ∷ xs) = P x × Each P xs

to_all : (P : ℕ → Type 0) (xs : List ℕ) → Each P xs → All P xs
to_all P [] h = All-nil P
to_all P (x ∷ xs) h = All-cons P x xs h.0 (to_all P xs h.1)

from_all : (P : ℕ → Type 0) (xs : List ℕ) → All P xs → Each P xs
from_all P [] h = tt
from_all P (x ∷ xs) h = (All-head P x xs h, from_all P xs (All-tail P x xs h))

-- ---- any claim that holds of what is not hidden, and of printable ASCII

pub record Holds (P : ℕ → Type 0) : Type 0 where
  pub plain : (c : ℕ) → is_hidden c ≡ false → P c
  pub ascii : (c : ℕ) → 32 ≤ c → c < 127 → P c

digit_bounds : (d : ℕ) → d < 16 → (32 ≤ digit_char d) × (digit_char d < 127)
digit_bounds d h = by_test (nat_lt d 10) refl
  where
    by_test : (b : Bool) → nat_lt d 10 ≡ b → (32 ≤ cond b (48 + d) (87 + d)) × (cond b (48 + d) (87 + d) < 127)
    by_test true e = (let small : d < 10 = grind (arith, nat_tests) in (omega arith, omega arith))
    by_test false e = (omega arith, omega arith)

digit : (P : ℕ → Type 0) → Holds P → (d : ℕ) → d < 16 → P (digit_char d)
digit P holds d h = let bounds = digit_bounds d h in holds.ascii (digit_char d) bounds.0 bounds.1

byte_holds : (P : ℕ → Type 0) → Holds P → (b : ℕ) → b < 256 → Each P (byte_escape b)
byte_holds P holds b h = (holds.ascii 92 (omega arith) (omega arith), (holds.ascii 120 (omega arith) (omega arith), (digit P holds (b / 16) (omega arith), (digit P holds (b % 16) (omega arith), tt))))

escape_holds : (P : ℕ → Type 0) → Holds P → (c : ℕ) → c < 65536 → Each P (char_escape c)
escape_holds P holds c h = (
  holds.ascii 92 (omega arith) (omega arith),
  (
    holds.ascii 117 (omega arith) (omega arith),
    (
      holds.ascii 123 (omega arith) (omega arith),
      (
        digit P holds (c / 256 / 16) (omega arith),
        (
          digit P holds (c / 256 % 16) (omega arith),
          (
            digit P holds (c % 256 / 16) (omega arith),
            (
              digit P holds (c % 256 % 16) (omega arith),
              (
                holds.ascii 125 (omega arith) (omega arith),
                tt,
              ),
            ),
          ),
        ),
      ),
    ),
  ),
)

-- ---- tests that fail

or-false : (a b : Bool) → a ≡ false → b ≡ false → (a || b) ≡ false
or-false a b h k = rw (h, k) refl

and-false : (a b : Bool) → b ≡ false → (a && b) ≡ false
and-false true b h = h
and-false false b h = refl

below_range : (low high c : ℕ) → c < low → is_in_range low high c ≡ false
below_range low high c h = let test : nat_le low c ≡ false = grind (arith, nat_tests) in rw test refl

above_range : (low high c : ℕ) → high < c → is_in_range low high c ≡ false
above_range low high c h = let test : nat_le c high ≡ false = grind (arith, nat_tests) in and-false (nat_le low c) (nat_le c high) test

other : (c n : ℕ) → c ≢ n → (c == n) ≡ false
other c n h = grind (arith, nat_tests)

large : (c : ℕ) → 65536 ≤ c → is_hidden c ≡ false
large c h =
    or-false _ _ (or-false _ _ (or-false _ _ (or-false _ _ (or-false _ _ (or-false _ _ (or-false _ _
    (above_range 0 0x1F c (omega arith)) (above_range 0x7F 0x9F c (omega arith)))
    (other c 0xAD (λ e. absurd (omega (arith, e))))) (other c 0x61C (λ e. absurd (omega (arith, e)))))
    (above_range 0x200B 0x200F c (omega arith))) (above_range 0x2028 0x202E c (omega arith)))
    (above_range 0x2060 0x206F c (omega arith))) (other c 0xFEFF (λ e. absurd (omega (arith, e))))

hidden_small : (c : ℕ) → is_hidden c ≡ true → c < 65536
hidden_small c h = by_test (nat_lt c 65536) refl
  where
    by_test : (b : Bool) → nat_lt c 65536 ≡ b → c < 65536
    by_test true e = grind (arith, nat_tests)
    by_test false e = (let big : 65536 ≤ c = grind (arith, nat_tests) in let never = large c big in cc)

printable_plain : (b : ℕ) → IsPrintable b → is_hidden b ≡ false
printable_plain b h =
    let low : 32 ≤ b = h.0 in
    let high : b < 127 = h.1 in
    or-false _ _ (or-false _ _ (or-false _ _ (or-false _ _ (or-false _ _ (or-false _ _ (or-false _ _
    (above_range 0 0x1F b (omega arith)) (below_range 0x7F 0x9F b (omega arith)))
    (other b 0xAD (λ e. absurd (omega (arith, e))))) (other b 0x61C (λ e. absurd (omega (arith, e)))))
    (below_range 0x200B 0x200F b (omega arith))) (below_range 0x2028 0x202E b (omega arith)))
    (below_range 0x2060 0x206F b (omega arith))) (other b 0xFEFF (λ e. absurd (omega (arith, e))))

-- ---- what is shown

either : (P : ℕ → Type 0) (b : Bool) (xs ys : List ℕ) → Each P xs → Each P ys → Each P (cond b xs ys)
either P true xs ys h k = h
either P false xs ys h k = k

char_holds : (P : ℕ → Type 0) → Holds P → (c : ℕ) → Each P (shown_char c)
char_holds P holds c = by_test (is_hidden c) refl
  where
    by_test : (b : Bool) → is_hidden c ≡ b → Each P (cond b (char_escape c) (c ∷ []))
    by_test true e = escape_holds P holds c (hidden_small c e)
    by_test false e = (holds.plain c e, tt)

tab_holds : (P : ℕ → Type 0) → Holds P → (column : ℕ) → Each P (tab column)
tab_holds P holds column =
    let blank : P 32 = holds.ascii 32 (omega arith) (omega arith) in
    let eight : Each P (codes "        ") = (blank, (blank, (blank, (blank, (blank, (blank, (blank, (blank, tt)))))))) in
    from_all P (tab column) (All-take P (8 - column % 8) (codes "        ") (to_all P (codes "        ") eight))

glyph_holds : (P : ℕ → Type 0) → Holds P → (column : ℕ) (char : Option ℕ) (bytes : List ℕ) → IsByte (slice_index bytes 0) → Each P (glyph_of column char bytes)
glyph_holds P holds column None bytes h = byte_holds P holds (slice_index bytes 0) h
glyph_holds P holds column (Some c) bytes h = either P (c == 9) _ _ (tab_holds P holds column) (either P (ends_line bytes) [] _ tt (char_holds P holds c))

put_holds : (P : ℕ → Type 0) → Holds P → (pen : Pen) (bytes : List ℕ) → IsByte (slice_index bytes 0) → Each P (put_at pen bytes)
unfolding put_at
put_holds P holds pen bytes h = by_count pen.inside
  where
    by_count : (n : ℕ) → Each P (put_by n pen bytes)
    by_count zero = glyph_holds P holds pen.column (decoded bytes).char bytes h
    by_count (suc n) = tt

pub shown_holds : (P : ℕ → Type 0) → Holds P → (count : ℕ) (pen : Pen) (bytes : List ℕ) → All IsByte bytes → All P (shown count pen bytes)
shown_holds P holds zero pen bytes h = All-nil P
shown_holds P holds (suc count) pen [] h = All-nil P
shown_holds P holds (suc count) pen (b ∷ bytes) h = All-append P (put_at pen (b ∷ bytes)) (shown count (pen_after pen (b ∷ bytes)) bytes) (to_all P (put_at pen (b ∷ bytes)) (put_holds P holds pen (b ∷ bytes) (All-head IsByte b bytes h))) (shown_holds P holds count (pen_after pen (b ∷ bytes)) bytes (All-tail IsByte b bytes h))

-- ---- the laws

wider : (c low high above below : ℕ) → low ≤ above → below ≤ high → (c < low) ⊎ (high < c) → (c < above) ⊎ (below < c)
wider c low high above below h k (inl e) = inl (omega arith)
wider c low high above below h k (inr e) = inr (omega arith)

pub no_commands : Holds IsNoCommand
no_commands = record {
  plain = λ c e. (let n = not_hidden c e in let low : 0x1F < c = n.control in (omega arith, wider c 0x7F 0x9F 127 159 (omega arith) (omega arith) n.delete));
  ascii = λ c low high. (low, inl high);
}

pub no_turns : Holds TurnsNothing
no_turns = record {
  plain = λ c e. (let n = not_hidden c e in record {
    letter_mark = n.letter;
    marks = wider c 0x200B 0x200F 0x200E 0x200F (omega arith) (omega arith) n.marks;
    embeddings = n.embeddings;
    isolates = wider c 0x2060 0x206F 0x2066 0x2069 (omega arith) (omega arith) n.isolates;
  });
  ascii = λ c low high. record {
    letter_mark = λ e. absurd (omega (arith, e));
    marks = inl (omega arith);
    embeddings = inl (omega arith);
    isolates = inl (omega arith);
  };
}

-- ---- printable ASCII

decoded_ascii : (b : ℕ) (bytes : List ℕ) → b < 128 → decoded (b ∷ bytes) ≡ good b 1
decoded_ascii b bytes h =
    let some : (length (b ∷ bytes) == 0) ≡ false = grind (arith, nat_tests) in
    let small : nat_lt b 0x80 ≡ true = grind (arith, nat_tests) in
    rw (some, small) refl

glyph_ascii : (column b : ℕ) (bytes : List ℕ) → IsPrintable b → glyph_of column (Some b) (b ∷ bytes) ≡ b ∷ []
glyph_ascii column b bytes h =
    let low : 32 ≤ b = h.0 in
    let tabless : (b == 9) ≡ false = other b 9 (λ e. absurd (omega (arith, e))) in
    let no_return : (b == 13) ≡ false = other b 13 (λ e. absurd (omega (arith, e))) in
    let plain = printable_plain b h in
    by_tests (b == 9) (b == 13) (is_hidden b) tabless no_return plain
  where
    by_tests : (t r i : Bool) → t ≡ false → r ≡ false → i ≡ false → cond t (tab column) (cond (r && (slice_index (b ∷ bytes) 1 == 10)) [] (cond i (char_escape b) (b ∷ []))) ≡ b ∷ []
    by_tests t r i x y z = rw (x, y, z) refl

same_step : (column b : ℕ) (bytes : List ℕ) (read : Decoded) → IsPrintable b → ((next : ℕ) → shown (length bytes) (record { inside = 0; column = next }) bytes ≡ bytes) → read ≡ good b 1 → glyph_of column read.char (b ∷ bytes) ++ shown (length bytes) (pen_as read (record { inside = 0; column = column }) (b ∷ bytes)) bytes ≡ b ∷ bytes
same_step column b bytes read h more e =
    let glyph = glyph_ascii column b bytes h in
    rw (e, glyph) (ap (λ (l : List ℕ). b ∷ l) (more (column + text_width (b ∷ []))))

same : (bytes : List ℕ) → Each IsPrintable bytes → (column : ℕ) → shown (length bytes) (record { inside = 0; column = column }) bytes ≡ bytes
unfolding put_at pen_after
same [] h column = refl
same (b ∷ bytes) h column =
    let high : b < 127 = h.0.1 in
    same_step column b bytes (decoded (b ∷ bytes)) h.0 (same bytes h.1) (decoded_ascii b bytes (omega arith))

pub shown_same : (bytes : List ℕ) (column : ℕ) → All IsPrintable bytes → shown (length bytes) (record { inside = 0; column = column }) bytes ≡ bytes
shown_same bytes column h = same bytes (from_all IsPrintable bytes h) column
