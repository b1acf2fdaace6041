-- What has a value is an integer as it is written, and the other way round.
use Rattle.std.proofs.Common.{◌≡◌, ◌==◌, ◌⊎◌, inl, inr, ℕ, ◌^◌, ◌<◌, Bool, true, false, not, ◌&&◌, ◌||◌, cond, nat_lt, List, [], ◌∷◌, ◌++◌, length, take, drop, Some, None, refl, sym, ap, ◌∙◌, subst, arith, eqb-true, length-take}
use Rattle.std.specs.Prelude.{codes, slice_index}
use Rattle.std.specs.List.{list_all}
use Rattle.std.specs.Str.Parse.{AllDigits, IsNumeral, digits_value}
use Rattle.std.proofs.lemmas.Bool.{and_from, cases_Bool, lt-ltb, ltb-true, ne_eqb, not-true, or_from}
use Rattle.std.proofs.lemmas.Bool.Decides.{nat_tests}
use Rattle.std.proofs.lemmas.List.{take-append-drop}
use Rattle.std.proofs.Math.Seq.{drop-append_seam, take-append_seam}
use Rattle.snl_lex.specs.declared.alphabet.NumberBase.{NumberBase}
use Rattle.snl_lex.specs.declared.alphabet.NumberBase.TheVariants.{Octal, Decimal, Hexadecimal}
use Rattle.snl_lex.specs.Alphabet.{is_digit, is_digit_in, is_hexadecimal_digit, is_octal_digit}
use Rattle.snl_lex.specs.Numbers.{base_of, checked_value, int_value_of, is_int_suffix, radix, value_after, value_in}
use Rattle.snl_lex.specs.PieceLaws.{small_enough}
use Rattle.snl_lex.specs.Runs.{run_of}
use Rattle.snl_token_laws.specs.Numbers.{EndsInteger, IsInteger, IsOneOf, long_marks, unsigned_marks}
use Rattle.snl_token_laws.specs.Numbers.EndsInteger.{long_first, unsigned_first}
use Rattle.snl_token_laws.specs.Numbers.IsInteger.{decimal, hexadecimal, octal}
use Rattle.snl_token_laws.proofs.DigitRuns.{all_below, digit_is, front_passes, run_within}
use Rattle.snl_token_laws.proofs.MarkerNumbers.{run_end}
use Rattle.snl_token_laws.proofs.Spelled.{each_two, ends_test, ends_told, or_either}
use Rattle.snl_token_laws.proofs.Values.{all_digits, decimal_base, of_base, same_value}

-- ---- from a value to how it is written

value_if : (a b c : Bool) (w v : ℕ) → cond (a && b) (cond c (Some w) None) None ≡ Some v → (a ≡ true) × (b ≡ true) × (c ≡ true) × (w ≡ v)
value_if true true true w v h = (refl, refl, refl, cc)
value_if true true false w v h = cc
value_if true false c w v h = cc
value_if false b c w v h = cc

-- The bytes are digits of the base that have the value, and what an integer ends with.
record IsWritten (base : NumberBase) (bytes : List ℕ) (v : ℕ) : Type 0 where
  digits : List ℕ
  suffix : List ℕ
  some : 0 < length digits
  all : AllDigits (radix base) digits
  ends : EndsInteger suffix
  worth : digits_value (radix base) digits ≡ v
  small : v < 2 ^ 64
  whole : digits ++ suffix ≡ bytes

written : (base : NumberBase) (bytes : List ℕ) (v : ℕ) → value_in base bytes ≡ Some v → IsWritten base bytes v
unfolding value_in
written base bytes v h =
    let count : ℕ = run_of (is_digit_in base) bytes in
    let ds : List ℕ = take count bytes in
    let w : ℕ = value_after base 0 ds in
    let parts = value_if (nat_lt 0 count) (is_int_suffix (drop count bytes)) (nat_lt w 18446744073709551616) w v h in
    let low : 0 < count = ltb-true 0 count parts.0 in
    let all : AllDigits (radix base) ds = all_below base ds (front_passes (is_digit_in base) bytes) in
    let small : w < 18446744073709551616 = ltb-true w 18446744073709551616 parts.2 in
    record {
      digits = ds;
      suffix = drop count bytes;
      some = omega (arith, length-take count bytes, run_within (is_digit_in base) bytes);
      all = all;
      ends = ends_told (drop count bytes) parts.1;
      worth = sym (same_value base 0 ds all) ∙ parts.3;
      small = subst (λ (n : ℕ). n < 18446744073709551616) parts.3 small;
      whole = take-append-drop count bytes;
    }

moved : (v w : ℕ) (xs ys : List ℕ) → v ≡ w → xs ≡ ys → IsInteger v xs → IsInteger w ys
moved v w xs ys e f h = subst (λ (n : ℕ). IsInteger n ys) e (subst (λ (l : List ℕ). IsInteger v l) f h)

pub first_of : (xs ys : List ℕ) → 0 < length xs → slice_index (xs ++ ys) 0 ≡ slice_index xs 0
first_of [] ys some = absurd (omega arith)
first_of (x ∷ xs) ys some = refl

pub differs : (b n : ℕ) → (b == n) ≡ false → b ≡ n → ⊥
differs b n h e = grind (arith, nat_tests)

decimal_form : (bytes : List ℕ) (v : ℕ) → (slice_index bytes 0 == 48) ≡ false → IsWritten Decimal bytes v → IsInteger v bytes
decimal_form bytes v first w =
    let same : slice_index bytes 0 ≡ slice_index w.digits 0 = ap (λ (l : List ℕ). slice_index l 0) (sym w.whole) ∙ first_of w.digits w.suffix w.some in
    let other : slice_index w.digits 0 ≡ 48 → ⊥ = λ e. differs (slice_index bytes 0) 48 first (same ∙ e) in
    let small : digits_value 10 w.digits < 18446744073709551616 = subst (λ (n : ℕ). n < 18446744073709551616) (sym w.worth) w.small in
    moved (digits_value 10 w.digits) v (w.digits ++ w.suffix) bytes w.worth w.whole (decimal w.digits w.suffix (w.some, w.all) other small w.ends)

octal_at : (ds suffix bytes : List ℕ) (v : ℕ) → 0 < length ds → AllDigits 8 ds → EndsInteger suffix → digits_value 8 ds ≡ v → v < 2 ^ 64 → ds ++ suffix ≡ bytes → slice_index bytes 0 ≡ 48 → IsInteger v bytes
octal_at [] suffix bytes v some all ends worth small whole first = absurd (omega arith)
octal_at (c ∷ cs) suffix bytes v some all ends worth small whole first =
    let zero_first : c ≡ 48 = ap (λ (l : List ℕ). slice_index l 0) whole ∙ first in
    let value : digits_value 8 cs ≡ v = ap (λ (d : ℕ). digits_value 8 (d ∷ cs)) (sym zero_first) ∙ worth in
    let low : digits_value 8 cs < 18446744073709551616 = subst (λ (n : ℕ). n < 18446744073709551616) (sym value) small in
    moved (digits_value 8 cs) v (48 ∷ cs ++ suffix) bytes value (ap (λ (d : ℕ). d ∷ cs ++ suffix) (sym zero_first) ∙ whole) (octal cs suffix all.1 low ends)

hexadecimal_at : (a b : ℕ) (cs : List ℕ) (v : ℕ) → a ≡ 48 → (b ≡ 120) ⊎ (b ≡ 88) → IsWritten Hexadecimal cs v → IsInteger v (a ∷ b ∷ cs)
hexadecimal_at a b cs v first second w =
    let mark : IsOneOf (a ∷ b ∷ []) (codes "0x" ∷ codes "0X" ∷ []) = elim second [ inl x ↦ inl (cc) | inr x ↦ inr (inl (cc)) ] in
    let small : digits_value 16 w.digits < 18446744073709551616 = subst (λ (n : ℕ). n < 18446744073709551616) (sym w.worth) w.small in
    moved (digits_value 16 w.digits) v (a ∷ b ∷ w.digits ++ w.suffix) (a ∷ b ∷ cs) w.worth (ap (λ (l : List ℕ). a ∷ b ∷ l) w.whole) (hexadecimal (a ∷ b ∷ []) w.digits w.suffix mark (w.some, w.all) small w.ends)

base_at : (bytes : List ℕ) (x : Bool) → (slice_index bytes 0 == 48) ≡ true → (slice_index bytes 1 == 120 || slice_index bytes 1 == 88) ≡ x → base_of bytes ≡ cond x Hexadecimal Octal
unfolding base_of
base_at bytes x h k = ap (λ (b : Bool). cond b (cond (slice_index bytes 1 == 120 || slice_index bytes 1 == 88) Hexadecimal Octal) Decimal) h ∙ ap (λ (b : Bool). cond b Hexadecimal Octal) k

hexadecimal_form : (bytes : List ℕ) (v : ℕ) → slice_index bytes 0 ≡ 48 → (slice_index bytes 1 == 120 || slice_index bytes 1 == 88) ≡ true → IsWritten Hexadecimal (drop 2 bytes) v → IsInteger v bytes
hexadecimal_form [] v first second w = cc
hexadecimal_form (a ∷ []) v first second w = cc
hexadecimal_form (a ∷ b ∷ cs) v first second w =
    hexadecimal_at a b cs v first (elim (or_either (b == 120) (b == 88) second) [ inl e ↦ inl (eqb-true b 120 e) | inr e ↦ inr (eqb-true b 88 e) ]) w

pub integer_form : (bytes : List ℕ) (v : ℕ) → int_value_of bytes ≡ Some v → IsInteger v bytes
integer_form bytes v h =
    let mark : Bool = slice_index bytes 1 == 120 || slice_index bytes 1 == 88 in
    elim (cases_Bool (slice_index bytes 0 == 48)) [
      | inl zero_first ↦
          let first : slice_index bytes 0 ≡ 48 = eqb-true (slice_index bytes 0) 48 zero_first in
          elim (cases_Bool (slice_index bytes 1 == 120 || slice_index bytes 1 == 88)) [
            | inl x ↦ hexadecimal_form bytes v first x (written Hexadecimal (drop 2 bytes) v (sym (of_base Hexadecimal bytes (base_at bytes true zero_first x)) ∙ h))
            | inr none ↦
                let w = written Octal bytes v (sym (of_base Octal bytes (base_at bytes false zero_first none)) ∙ h) in
                octal_at w.digits w.suffix bytes v w.some w.all w.ends w.worth w.small w.whole first
          ]
      | inr other ↦ decimal_form bytes v other (written Decimal bytes v (sym (of_base Decimal bytes (decimal_base bytes other)) ∙ h))
    ]

-- ---- from how it is written to the value

by_marks : (base : NumberBase) (suffix : List ℕ) → EndsInteger suffix → not (is_digit_in base (slice_index suffix 0)) ≡ true
unfolding is_digit is_octal_digit is_hexadecimal_digit
by_marks Octal suffix (unsigned_first u l hu hl) = each_two (λ s t. not (is_digit_in Octal (slice_index (s ++ t) 0))) u l unsigned_marks long_marks refl hu hl
by_marks Octal suffix (long_first l u hl hu) = each_two (λ s t. not (is_digit_in Octal (slice_index (s ++ t) 0))) l u long_marks unsigned_marks refl hl hu
by_marks Decimal suffix (unsigned_first u l hu hl) = each_two (λ s t. not (is_digit_in Decimal (slice_index (s ++ t) 0))) u l unsigned_marks long_marks refl hu hl
by_marks Decimal suffix (long_first l u hl hu) = each_two (λ s t. not (is_digit_in Decimal (slice_index (s ++ t) 0))) l u long_marks unsigned_marks refl hl hu
by_marks Hexadecimal suffix (unsigned_first u l hu hl) = each_two (λ s t. not (is_digit_in Hexadecimal (slice_index (s ++ t) 0))) u l unsigned_marks long_marks refl hu hl
by_marks Hexadecimal suffix (long_first l u hl hu) = each_two (λ s t. not (is_digit_in Hexadecimal (slice_index (s ++ t) 0))) l u long_marks unsigned_marks refl hl hu

ends_no_digit : (base : NumberBase) (suffix : List ℕ) → EndsInteger suffix → is_digit_in base (slice_index suffix 0) ≡ false
ends_no_digit base suffix ends = not-true (is_digit_in base (slice_index suffix 0)) (by_marks base suffix ends)

in_base : (base : NumberBase) (ds suffix : List ℕ) → 0 < length ds → AllDigits (radix base) ds → digits_value (radix base) ds < 2 ^ 64 → EndsInteger suffix → value_in base (ds ++ suffix) ≡ Some (digits_value (radix base) ds)
unfolding value_in
in_base base ds suffix some all small ends =
    let u : List ℕ = ds ++ suffix in
    let pass : list_all (is_digit_in base) ds ≡ true = all_digits (is_digit_in base) (radix base) ds (digit_is base) all in
    let count : run_of (is_digit_in base) u ≡ length ds = run_end (is_digit_in base) ds suffix pass (ends_no_digit base suffix ends) in
    let front : take (length ds) u ≡ ds = take-append_seam ds suffix in
    let rest : drop (length ds) u ≡ suffix = drop-append_seam ds suffix in
    let test : (nat_lt 0 (length ds) && is_int_suffix (drop (length ds) u)) ≡ true =
    and_from (nat_lt 0 (length ds)) (is_int_suffix (drop (length ds) u)) (lt-ltb 0 (length ds) some) (ap is_int_suffix rest ∙ ends_test suffix ends) in
    ap (λ (n : ℕ). cond (nat_lt 0 n && is_int_suffix (drop n u)) (checked_value (value_after base 0 (take n u))) None) count
    ∙ ap (λ (b : Bool). cond b (checked_value (value_after base 0 (take (length ds) u))) None) test
    ∙ ap (λ (l : List ℕ). checked_value (value_after base 0 l)) front
    ∙ ap checked_value (same_value base 0 ds all)
    ∙ small_enough (digits_value (radix base) ds) small

octal_no_x : (c : ℕ) → is_octal_digit c ≡ true → (c == 120 || c == 88) ≡ false
unfolding is_octal_digit
octal_no_x c h = or_from (c == 120) (c == 88) (grind (arith, nat_tests)) (grind (arith, nat_tests))

-- What follows the `0` of an octal number is no `x`.
octal_second : (ds suffix : List ℕ) → AllDigits 8 ds → EndsInteger suffix → (slice_index (ds ++ suffix) 0 == 120 || slice_index (ds ++ suffix) 0 == 88) ≡ false
octal_second [] suffix all (unsigned_first u l hu hl) =
    not-true (slice_index (u ++ l) 0 == 120 || slice_index (u ++ l) 0 == 88) (each_two (λ s t. not (slice_index (s ++ t) 0 == 120 || slice_index (s ++ t) 0 == 88)) u l unsigned_marks long_marks refl hu hl)
octal_second [] suffix all (long_first l u hl hu) =
    not-true (slice_index (l ++ u) 0 == 120 || slice_index (l ++ u) 0 == 88) (each_two (λ s t. not (slice_index (s ++ t) 0 == 120 || slice_index (s ++ t) 0 == 88)) l u long_marks unsigned_marks refl hl hu)
octal_second (c ∷ cs) suffix all ends = octal_no_x c (digit_is Octal c all.0)

hexadecimal_value_of : (x ds suffix : List ℕ) → IsOneOf x (codes "0x" ∷ codes "0X" ∷ []) → IsNumeral 16 ds → digits_value 16 ds < 2 ^ 64 → EndsInteger suffix → int_value_of (x ++ (ds ++ suffix)) ≡ Some (digits_value 16 ds)
hexadecimal_value_of x ds suffix mark is small ends =
    let u : List ℕ = ds ++ suffix in
    let value : value_in Hexadecimal u ≡ Some (digits_value 16 ds) = in_base Hexadecimal ds suffix is.0 is.1 small ends in
    elim mark [
      | inl e ↦ ap (λ (l : List ℕ). int_value_of (l ++ u)) e ∙ of_base Hexadecimal (48 ∷ 120 ∷ u) (base_at (48 ∷ 120 ∷ u) true refl refl) ∙ value
      | inr f ↦ elim f [
        | inl e ↦ ap (λ (l : List ℕ). int_value_of (l ++ u)) e ∙ of_base Hexadecimal (48 ∷ 88 ∷ u) (base_at (48 ∷ 88 ∷ u) true refl refl) ∙ value
        | inr none ↦ elim none [ ]
      ]
    ]

pub integer_value : (bytes : List ℕ) (v : ℕ) → IsInteger v bytes → int_value_of bytes ≡ Some v
integer_value bytes v (decimal ds suffix is other small ends) =
    let u : List ℕ = ds ++ suffix in
    let first : (slice_index u 0 == 48) ≡ false = ne_eqb (slice_index u 0) 48 (λ e. other (sym (first_of ds suffix is.0) ∙ e)) in
    of_base Decimal u (decimal_base u first) ∙ in_base Decimal ds suffix is.0 is.1 small ends
integer_value bytes v (octal ds suffix all small ends) =
    let u : List ℕ = 48 ∷ ds ++ suffix in
    let low : digits_value 8 (48 ∷ ds) < 18446744073709551616 = small in
    of_base Octal u (base_at u false refl (octal_second ds suffix all ends)) ∙ in_base Octal (48 ∷ ds) suffix (omega arith) (omega arith, all) low ends
integer_value bytes v (hexadecimal x ds suffix mark is small ends) = hexadecimal_value_of x ds suffix mark is small ends
