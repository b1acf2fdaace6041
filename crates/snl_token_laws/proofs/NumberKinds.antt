-- The pieces of a text that are numbers, and those that begin as one.
use Rattle.std.proofs.Common.{◌≡◌, ◌==◌, inl, inr, ℕ, zero, suc, ◌+◌, ◌<◌, Bool, true, false, cond, List, [], ◌∷◌, ◌++◌, length, take, drop, Option, Some, None, refl, sym, ap, ◌∙◌, subst, arith, eqb-true, length-drop}
use Rattle.std.specs.Prelude.{◌↔◌, codes, slice_index}
use Rattle.std.specs.Str.Parse.{IsNumeral}
use Rattle.snl_lex.specs.declared.alphabet.Start.{Start}
use Rattle.snl_lex.specs.declared.alphabet.Start.TheVariants.{Blank, Letter, Digit, Dot, Hash, Slash, Percent, Quote, Apostrophe, Sign, Stray}
use Rattle.snl_lex.specs.declared.piece.Class.{Class}
use Rattle.snl_lex.specs.declared.piece.Class.TheVariants.{White, Comment, Marker, CCode, Name, Word, Int, Float, Text, CharLit, Punct, Bad}
use Rattle.snl_lex.specs.declared.piece.Piece.{Piece}
use Rattle.snl_lex.specs.Alphabet.{is_digit, is_in_line, is_word_byte, start_of}
use Rattle.snl_lex.specs.Classes.{HasItsClass}
use Rattle.snl_lex.specs.Kinds.{is_word}
use Rattle.snl_lex.specs.Numbers.{number_class}
use Rattle.snl_lex.specs.Pieces.{LiesIn, bytes_at, closed_by, closed_piece, first_piece, number_piece, piece_by, punctuator_piece, run_piece, string_joins}
use Rattle.snl_lex.specs.Runs.{close_of, run_by, run_of}
use Rattle.snl_token_laws.specs.Numbers.{BeginsNumber, IsFloating, IsInteger, IsOneOf}
use Rattle.snl_token_laws.specs.Numbers.IsFloating.{with_dot, without_dot}
use Rattle.snl_token_laws.specs.Numbers.IsInteger.{decimal, hexadecimal, octal}
use Rattle.snl_token_laws.proofs.MarkerNumbers.{zero_no_digit}
use Rattle.snl_token_laws.proofs.NumberForms.{Says, class_says, float_class, integer_class, zero_is}
use Rattle.snl_token_laws.proofs.NumberPieces.{number_begins}
use Rattle.snl_token_laws.proofs.PunctuatorBytes.{says, start_says}
use Rattle.snl_token_laws.proofs.Spelled.{each_one}
use Rattle.snl_token_laws.proofs.Values.{decimal_digit_is}

-- ---- a piece of a number's class begins as one

abbrev is_number : Class → Bool
is_number kind = elim kind [ Int ↦ true | Float ↦ true | _ ↦ false ]

begins_if : (u : List ℕ) (b : Bool) (p q : Class × ℕ) → (b ≡ true → is_number p.0 ≡ true → BeginsNumber u) → (b ≡ false → is_number q.0 ≡ true → BeginsNumber u) → is_number (cond b p q).0 ≡ true → BeginsNumber u
begins_if u true p q h k e = h refl e
begins_if u false p q h k e = k refl e

no_number : (u : List ℕ) → false ≡ true → BeginsNumber u
no_number u e = cc

word_begins : (u : List ℕ) (b : Bool) → is_number (cond b Word Name) ≡ true → BeginsNumber u
word_begins u true e = no_number u e
word_begins u false e = no_number u e

closed_begins : (u : List ℕ) (kind : Class) (total : ℕ) (o : Option ℕ) → is_number kind ≡ false → is_number (closed_by kind total o).0 ≡ true → BeginsNumber u
closed_begins u kind total None no_kind e = no_number u e
closed_begins u kind total (Some n) no_kind e = no_number u (sym no_kind ∙ e)

begins_by : (s : Start) (x : ℕ) (xs : List ℕ) → says s x ≡ true → is_number (piece_by s (x ∷ xs)).0 ≡ true → BeginsNumber (x ∷ xs)
begins_by Blank x xs h e = no_number (x ∷ xs) e
begins_by Letter x xs h e = word_begins (x ∷ xs) (is_word (take (1 + run_of is_word_byte xs) (x ∷ xs))) e
begins_by Digit x xs h e = inl h
begins_by Dot x xs h e =
    let u : List ℕ = x ∷ xs in
    begins_if u (is_digit (slice_index u 1)) (number_piece u) (punctuator_piece u) (λ d _. inr (eqb-true x 46 h, d)) (λ _ f. no_number u f) e
begins_by Hash x xs h e = no_number (x ∷ xs) e
begins_by Slash x xs h e =
    let u : List ℕ = x ∷ xs in
    begins_if u (slice_index u 1 == 47) (run_piece Comment is_in_line u) _ (λ _ f. no_number u f)
    (λ _ f. begins_if u (slice_index u 1 == 42) (closed_piece Comment 42 47 u) (punctuator_piece u) (λ _ g. closed_begins u Comment (length u) (close_of 42 47 (drop 2 u)) refl g) (λ _ g. no_number u g) f) e
begins_by Percent x xs h e =
    let u : List ℕ = x ∷ xs in
    begins_if u (slice_index u 1 == 37) (run_piece CCode is_in_line u) _ (λ _ f. no_number u f)
    (λ _ f. begins_if u (slice_index u 1 == 123) (closed_piece CCode 125 37 u) (punctuator_piece u) (λ _ g. closed_begins u CCode (length u) (close_of 125 37 (drop 2 u)) refl g) (λ _ g. no_number u g) f) e
begins_by Quote x xs h e =
    let u : List ℕ = x ∷ xs in
    let n : ℕ = 1 + run_by (string_joins 34) [] xs in
    begins_if u (slice_index u n == 34) (Text, 1 + n) (Bad, n) (λ _ f. no_number u f) (λ _ f. no_number u f) e
begins_by Apostrophe x xs h e =
    let u : List ℕ = x ∷ xs in
    let n : ℕ = 1 + run_by (string_joins 39) [] xs in
    begins_if u (slice_index u n == 39) (CharLit, 1 + n) (Bad, n) (λ _ f. no_number u f) (λ _ f. no_number u f) e
begins_by Sign x xs h e = no_number (x ∷ xs) e
begins_by Stray x xs h e = no_number (x ∷ xs) e

kind_begins : (u : List ℕ) → 0 < length u → is_number (first_piece u).0 ≡ true → BeginsNumber u
unfolding first_piece
kind_begins [] some e = absurd (omega arith)
kind_begins (x ∷ xs) some e = begins_by (start_of x) x xs (start_says x) e

-- ---- what is written as a number begins as one

no_zero : is_digit 0 ≡ true → ⊥
no_zero h = absurd (cc zero_no_digit)

empty_begins : BeginsNumber [] → ⊥
empty_begins h = elim h [ inl d ↦ no_zero d | inr dot ↦ no_zero dot.1 ]

begins_take : (n : ℕ) (u : List ℕ) → BeginsNumber (take n u) → BeginsNumber u
begins_take zero u h = absurd (empty_begins h)
begins_take (suc n) [] h = h
begins_take (suc zero) (x ∷ xs) h = elim h [ inl d ↦ inl d | inr dot ↦ absurd (no_zero dot.1) ]
begins_take (suc (suc n)) (x ∷ []) h = h
begins_take (suc (suc n)) (x ∷ y ∷ ys) h = h

digits_begin : (whole ys : List ℕ) → IsNumeral 10 whole → BeginsNumber (whole ++ ys)
digits_begin [] ys is = absurd (omega (arith, is.0))
digits_begin (c ∷ cs) ys is = inl (decimal_digit_is c is.1.0)

float_begins : (bytes : List ℕ) → IsFloating bytes → BeginsNumber bytes
float_begins bytes (with_dot [] [] power suffix hw hf some hp mark) = absurd (omega arith)
float_begins bytes (with_dot [] (d ∷ ds) power suffix hw hf some hp mark) = inr (refl, decimal_digit_is d hf.0)
float_begins bytes (with_dot (c ∷ cs) fraction power suffix hw hf some hp mark) = inl (decimal_digit_is c hw.0)
float_begins bytes (without_dot whole power suffix hw hp mark) = digits_begin whole (power ++ suffix) hw

x_begins : (x u : List ℕ) → IsOneOf x (codes "0x" ∷ codes "0X" ∷ []) → BeginsNumber (x ++ u)
unfolding is_digit
x_begins x u h = inl (each_one (λ s. is_digit (slice_index (s ++ u) 0)) x (codes "0x" ∷ codes "0X" ∷ []) refl h)

integer_begins : (bytes : List ℕ) (v : ℕ) → IsInteger v bytes → BeginsNumber bytes
integer_begins bytes v (decimal ds suffix is other small ends) = digits_begin ds suffix is
integer_begins bytes v (octal ds suffix all small ends) = inl zero_is
integer_begins bytes v (hexadecimal x ds suffix mark is small ends) = x_begins x (ds ++ suffix) mark

neither_at : (bytes : List ℕ) (k : Class) → Says bytes k → ((v : ℕ) → IsInteger v bytes → ⊥) → (IsFloating bytes → ⊥) → k ≡ Bad
neither_at bytes White h int float = elim h [ ]
neither_at bytes Comment h int float = elim h [ ]
neither_at bytes Marker h int float = elim h [ ]
neither_at bytes CCode h int float = elim h [ ]
neither_at bytes Name h int float = elim h [ ]
neither_at bytes Word h int float = elim h [ ]
neither_at bytes Int h int float = absurd (int h.0 h.1)
neither_at bytes Float h int float = absurd (float h)
neither_at bytes Text h int float = elim h [ ]
neither_at bytes CharLit h int float = elim h [ ]
neither_at bytes Punct h int float = elim h [ ]
neither_at bytes Bad h int float = refl

-- ---- the pieces of a text

module _ (text : List ℕ) (p : Piece) (class : HasItsClass text p) (lies : LiesIn text p) where
  -- What begins as a number has the class of its bytes.
  by_bytes : BeginsNumber (drop p.start text) → p.kind ≡ number_class (bytes_at text p)
  by_bytes begins =
      let u : List ℕ = drop p.start text in
      let is : first_piece u ≡ number_piece u = number_begins u begins in
      let size : p.len ≡ (number_piece u).1 = class.len ∙ ap (λ (k : Class × ℕ). k.1) is in
      class.kind ∙ (ap (λ (k : Class × ℕ). k.0) is ∙ ap (λ (n : ℕ). number_class (take n u)) (sym size))

  begins_as : (k : Class) → is_number k ≡ true → p.kind ≡ k → BeginsNumber (drop p.start text)
  begins_as k number e =
      let some : 0 < length (drop p.start text) = omega (arith, lies.0, lies.1, length-drop p.start text) in
      kind_begins (drop p.start text) some (ap is_number (sym class.kind ∙ e) ∙ number)

  told : (k : Class) → p.kind ≡ k → BeginsNumber (drop p.start text) → Says (bytes_at text p) k
  told k e begins = subst (Says (bytes_at text p)) (sym (by_bytes begins) ∙ e) (class_says (bytes_at text p))

  pub integer_piece : (p.kind ≡ Int) ↔ ((v : ℕ) × IsInteger v (bytes_at text p))
  integer_piece = (
    (λ e. told Int e (begins_as Int refl e)),
    (λ is. by_bytes (begins_take p.len (drop p.start text) (integer_begins (bytes_at text p) is.0 is.1)) ∙ integer_class (bytes_at text p) is.0 is.1),
  )

  pub float_piece : (p.kind ≡ Float) ↔ IsFloating (bytes_at text p)
  float_piece = (
    (λ e. told Float e (begins_as Float refl e)),
    (λ is. by_bytes (begins_take p.len (drop p.start text) (float_begins (bytes_at text p) is)) ∙ float_class (bytes_at text p) is),
  )

  pub bad_piece : BeginsNumber (drop p.start text) → (p.kind ≡ Bad) ↔ (((v : ℕ) → IsInteger v (bytes_at text p) → ⊥) × (IsFloating (bytes_at text p) → ⊥))
  bad_piece begins = ((λ e. told Bad e begins), (λ no_form. by_bytes begins ∙ neither_at (bytes_at text p) (number_class (bytes_at text p)) (class_says (bytes_at text p)) no_form.0 no_form.1))
