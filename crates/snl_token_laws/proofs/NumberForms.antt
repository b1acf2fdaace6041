-- No bytes are an integer and a floating number, and what each begins with.
use Rattle.std.proofs.Common.{◌≡◌, ◌==◌, inl, inr, ℕ, Bool, true, false, not, ◌&&◌, ◌||◌, cond, List, [], ◌∷◌, ◌++◌, Option, Some, None, is_some, refl, ◌∙◌, subst, arith}
use Rattle.std.specs.Prelude.{codes, slice_index}
use Rattle.std.specs.List.{list_all}
use Rattle.std.specs.Str.Parse.{AllDigits}
use Rattle.std.proofs.lemmas.Bool.{and_from, and_parts, and_right, not-true, or_from}
use Rattle.std.proofs.lemmas.Bool.Decides.{nat_tests}
use Rattle.std.proofs.lemmas.List.Folds.{list_all-append}
use Rattle.snl_lex.specs.declared.piece.Class.{Class}
use Rattle.snl_lex.specs.declared.piece.Class.TheVariants.{Int, Float, Bad}
use Rattle.snl_lex.specs.Alphabet.{is_digit, is_letter, is_word_byte}
use Rattle.snl_lex.specs.Numbers.{int_value_of, is_float, is_power, number_class}
use Rattle.snl_token_laws.specs.Numbers.{EndsInteger, IsFloating, IsInteger, IsOneOf, long_marks, unsigned_marks}
use Rattle.snl_token_laws.specs.Numbers.EndsInteger.{long_first, unsigned_first}
use Rattle.snl_token_laws.specs.Numbers.IsExponent.{exponent}
use Rattle.snl_token_laws.specs.Numbers.IsFloating.{with_dot, without_dot}
use Rattle.snl_token_laws.specs.Numbers.IsInteger.{decimal, hexadecimal, octal}
use Rattle.snl_token_laws.proofs.FloatForms.{all_decimal, float_form, float_test, powers}
use Rattle.snl_token_laws.proofs.IntegerForms.{integer_form, integer_value}
use Rattle.snl_token_laws.proofs.Limits.{int_class}
use Rattle.snl_token_laws.proofs.Spelled.{each_one, each_two}
use Rattle.snl_token_laws.proofs.Values.{all_digits, decimal_digit_is}

-- A byte that digits and the marks of an integer are made of: no dot, no `e`.
abbrev pub is_calm : ℕ → Bool
is_calm b = is_word_byte b && not (is_power b)

-- ---- an integer that isn't hexadecimal has calm bytes alone

pub ends_calm : (suffix : List ℕ) → EndsInteger suffix → list_all is_calm suffix ≡ true
unfolding is_word_byte is_letter is_digit is_power
ends_calm suffix (unsigned_first u l hu hl) = each_two (λ s t. list_all is_calm (s ++ t)) u l unsigned_marks long_marks refl hu hl
ends_calm suffix (long_first l u hl hu) = each_two (λ s t. list_all is_calm (s ++ t)) l u long_marks unsigned_marks refl hl hu

digit_calm : (b : ℕ) → is_digit b ≡ true → is_calm b ≡ true
unfolding is_word_byte is_power is_digit
digit_calm b h = grind (arith, nat_tests)

digits_calm : (ds : List ℕ) → list_all is_digit ds ≡ true → list_all is_calm ds ≡ true
digits_calm [] h = refl
digits_calm (d ∷ ds) h =
    let parts = and_parts (is_digit d) (list_all is_digit ds) h in
    and_from (is_calm d) (list_all is_calm ds) (digit_calm d parts.0) (digits_calm ds parts.1)

pub octal_digits : (ds : List ℕ) → AllDigits 8 ds → list_all is_digit ds ≡ true
octal_digits ds h = all_digits is_digit 8 ds (λ c low. decimal_digit_is c (omega arith)) h

calm_both : (xs ys : List ℕ) → list_all is_calm xs ≡ true → list_all is_calm ys ≡ true → list_all is_calm (xs ++ ys) ≡ true
calm_both xs ys h k = list_all-append is_calm xs ys ∙ and_from (list_all is_calm xs) (list_all is_calm ys) h k

pub decimal_calm : (ds suffix : List ℕ) → list_all is_digit ds ≡ true → EndsInteger suffix → list_all is_calm (ds ++ suffix) ≡ true
decimal_calm ds suffix all ends = calm_both ds suffix (digits_calm ds all) (ends_calm suffix ends)

pub zero_is : is_digit 48 ≡ true
unfolding is_digit
zero_is = refl

-- ---- a floating number has a byte that isn't

true_false : (a b : Bool) → a ≡ false → (a && b) ≡ true → ⊥
true_false true b h k = cc
true_false false b h k = cc

seen : (p : ℕ → Bool) (xs ys : List ℕ) (b : ℕ) → p b ≡ false → list_all p (xs ++ b ∷ ys) ≡ true → ⊥
seen p [] ys b fails h = absurd (true_false (p b) (list_all p ys) fails h)
seen p (x ∷ xs) ys b fails h = seen p xs ys b fails (and_parts (p x) (list_all p (xs ++ b ∷ ys)) h).1

not_calm : (is_calm 46 ≡ false) × (is_calm 101 ≡ false) × (is_calm 69 ≡ false)
unfolding is_word_byte is_letter is_digit is_power
not_calm = (refl, refl, refl)

float_not_calm : (bytes : List ℕ) → IsFloating bytes → list_all is_calm bytes ≡ true → ⊥
float_not_calm bytes (with_dot whole fraction power suffix hw hf some hp mark) h = seen is_calm whole (fraction ++ (power ++ suffix)) 46 not_calm.0 h
float_not_calm bytes (without_dot whole power suffix hw (exponent e sign ds he hs is) mark) h =
    let u : List ℕ = sign ++ ds in
    elim he [
      | inl f ↦ seen is_calm whole (u ++ suffix) 101 not_calm.1 (subst (λ (l : List ℕ). list_all is_calm (whole ++ ((l ++ u) ++ suffix)) ≡ true) f h)
      | inr g ↦ elim g [
        | inl f ↦ seen is_calm whole (u ++ suffix) 69 not_calm.2 (subst (λ (l : List ℕ). list_all is_calm (whole ++ ((l ++ u) ++ suffix)) ≡ true) f h)
        | inr none ↦ elim none [ ]
      ]
    ]

-- Its first two bytes are no `0x`.
abbrev is_x : ℕ → Bool
is_x b = b == 120 || b == 88

digit_no_x : (b : ℕ) → is_digit b ≡ true → is_x b ≡ false
unfolding is_digit
digit_no_x b h = or_from (b == 120) (b == 88) (grind (arith, nat_tests)) (grind (arith, nat_tests))

digit_no_zero_x : (b c : ℕ) → is_digit c ≡ true → (b == 48 && is_x c) ≡ false
digit_no_zero_x b c h = and_right (b == 48) (is_x c) (digit_no_x c h)

float_no_x : (bytes : List ℕ) → IsFloating bytes → (slice_index bytes 0 == 48 && is_x (slice_index bytes 1)) ≡ false
float_no_x bytes (with_dot [] fraction power suffix hw hf some hp mark) = refl
float_no_x bytes (with_dot (c ∷ []) fraction power suffix hw hf some hp mark) = and_right (c == 48) (is_x 46) refl
float_no_x bytes (with_dot (c ∷ d ∷ ds) fraction power suffix hw hf some hp mark) = digit_no_zero_x c d (decimal_digit_is d hw.1.0)
float_no_x bytes (without_dot [] power suffix hw hp mark) = absurd (omega (arith, hw.0))
float_no_x bytes (without_dot (c ∷ []) power suffix hw (exponent e sign ds he hs is) mark) =
    let u : List ℕ = sign ++ ds in
    and_right (c == 48) (is_x (slice_index ((e ++ u) ++ suffix) 0)) (not-true (is_x (slice_index ((e ++ u) ++ suffix) 0)) (each_one (λ s. not (is_x (slice_index ((s ++ u) ++ suffix) 0))) e powers refl he))
float_no_x bytes (without_dot (c ∷ d ∷ ds) power suffix hw hp mark) = digit_no_zero_x c d (decimal_digit_is d hw.1.1.0)

zero_x : (x u : List ℕ) → IsOneOf x (codes "0x" ∷ codes "0X" ∷ []) → (slice_index (x ++ u) 0 == 48 && is_x (slice_index (x ++ u) 1)) ≡ true
zero_x x u h = each_one (λ s. slice_index (s ++ u) 0 == 48 && is_x (slice_index (s ++ u) 1)) x (codes "0x" ∷ codes "0X" ∷ []) refl h

pub not_both : (bytes : List ℕ) (v : ℕ) → IsInteger v bytes → IsFloating bytes → ⊥
not_both bytes v (decimal ds suffix is other small ends) f = float_not_calm bytes f (decimal_calm ds suffix (all_decimal ds is.1) ends)
not_both bytes v (octal ds suffix all small ends) f =
    float_not_calm bytes f (decimal_calm (48 ∷ ds) suffix (and_from (is_digit 48) (list_all is_digit ds) zero_is (octal_digits ds all)) ends)
not_both bytes v (hexadecimal x ds suffix mark is small ends) f =
    let told : (slice_index bytes 0 == 48 && is_x (slice_index bytes 1)) ≡ true = zero_x x (ds ++ suffix) mark in
    let not_told : (slice_index bytes 0 == 48 && is_x (slice_index bytes 1)) ≡ false = float_no_x bytes f in
    absurd (cc)

-- ---- the class of bytes, by their form

none_if : (o : Option ℕ) → ((v : ℕ) → o ≡ Some v → ⊥) → is_some o ≡ false
none_if None h = refl
none_if (Some v) h = absurd (h v refl)

float_if : (i f : Bool) → i ≡ false → f ≡ true → cond i Int (cond f Float Bad) ≡ Float
float_if true f h k = cc
float_if false true h k = refl
float_if false false h k = cc

pub float_class : (bytes : List ℕ) → IsFloating bytes → number_class bytes ≡ Float
unfolding number_class
float_class bytes f =
    float_if (is_some (int_value_of bytes)) (is_float bytes) (none_if (int_value_of bytes) (λ v e. not_both bytes v (integer_form bytes v e) f)) (float_test bytes f)

pub integer_class : (bytes : List ℕ) (v : ℕ) → IsInteger v bytes → number_class bytes ≡ Int
integer_class bytes v is = int_class bytes v (integer_value bytes v is)

-- What a class says of the bytes of a number run.
abbrev pub Says : List ℕ → Class → Type 0
Says bytes Int = (v : ℕ) × IsInteger v bytes
Says bytes Float = IsFloating bytes
Says bytes Bad = ((v : ℕ) → IsInteger v bytes → ⊥) × (IsFloating bytes → ⊥)
Says bytes _ = ⊥

none_some : (v : ℕ) → None ≡ Some v → ⊥
none_some v e = cc

false_true : false ≡ true → ⊥
false_true e = cc

says_at : (bytes : List ℕ) (o : Option ℕ) (f : Bool) → ((v : ℕ) → o ≡ Some v → IsInteger v bytes) → (f ≡ true → IsFloating bytes) → ((v : ℕ) → IsInteger v bytes → o ≡ Some v) → (IsFloating bytes → f ≡ true)
    → Says bytes (cond (is_some o) Int (cond f Float Bad))
says_at bytes (Some v) f int float int2 float2 = (v, int v refl)
says_at bytes None true int float int2 float2 = float refl
says_at bytes None false int float int2 float2 = ((λ v is. absurd (none_some v (int2 v is))), (λ is. absurd (false_true (float2 is))))

pub class_says : (bytes : List ℕ) → Says bytes (number_class bytes)
unfolding number_class
class_says bytes = says_at bytes (int_value_of bytes) (is_float bytes) (integer_form bytes) (float_form bytes) (integer_value bytes) (float_test bytes)
