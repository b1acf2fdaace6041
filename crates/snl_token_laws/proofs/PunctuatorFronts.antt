-- A punctuator's front makes a punctuator, and which starts have such a front.
use Rattle.std.proofs.Common.{◌≡◌, ◌==◌, ℕ, ◌<◌, Bool, true, false, cond, List, [], ◌∷◌, length, take, refl, sym, ap, ◌∙◌, arith, eqb-true}
use Rattle.std.specs.Prelude.{slice_index}
use Rattle.std.proofs.lemmas.Bool.{eqb-false, false_from_ne_true, false≢true}
use Rattle.std.proofs.lemmas.Bool.Decides.{nat_tests}
use Rattle.snl_lex.specs.declared.alphabet.Start.{Start}
use Rattle.snl_lex.specs.declared.alphabet.Start.TheVariants.{Blank, Letter, Digit, Dot, Hash, Slash, Percent, Quote, Apostrophe, Sign, Stray}
use Rattle.snl_lex.specs.declared.piece.Class.TheVariants.{Comment, CCode, Punct}
use Rattle.snl_lex.specs.Alphabet.{is_digit, is_in_line, is_letter, is_punctuator, is_white, start_of}
use Rattle.snl_lex.specs.Pieces.{closed_piece, first_piece, punctuator_piece, number_piece, piece_by, run_piece}
use Rattle.snl_token_laws.specs.Fronts.{IsPunctuatorFront}
use Rattle.snl_token_laws.proofs.PunctuatorBytes.{begins_punctuator, punctuator_begins, no_empty, says, start_says}
use Rattle.snl_lex.specs.PieceLaws.{dot_is, slash_is, percent_is}

-- ---- the first two bytes

two_bytes : (x a b : ℕ) (xs : List ℕ) → x ≡ a → 0 < b → slice_index (x ∷ xs) 1 ≡ b → take 2 (x ∷ xs) ≡ a ∷ b ∷ []
two_bytes x a b [] e some h = absurd (omega arith)
two_bytes x a b (y ∷ ys) e some h = let same : y ≡ b = h in cc

second_is : (x a b : ℕ) (xs : List ℕ) → take 2 (x ∷ xs) ≡ a ∷ b ∷ [] → slice_index (x ∷ xs) 1 ≡ b
second_is x a b [] h = cc
second_is x a b (y ∷ ys) h = cc

first_is : (x a b : ℕ) (xs : List ℕ) → take 2 (x ∷ xs) ≡ a ∷ b ∷ [] → x ≡ a
first_is x a b [] h = cc
first_is x a b (y ∷ ys) h = cc

dot_first : (x : ℕ) (xs : List ℕ) → take 1 (x ∷ xs) ≡ 46 ∷ [] → x ≡ 46
dot_first x xs h = cc

-- ---- the front makes a punctuator

not_second : (x a b : ℕ) (xs : List ℕ) → (x == a) ≡ true → 0 < b → (take 2 (x ∷ xs) ≡ a ∷ b ∷ [] → ⊥) → (slice_index (x ∷ xs) 1 == b) ≡ false
not_second x a b xs e some never =
    false_from_ne_true (slice_index (x ∷ xs) 1 == b) (λ t. never (two_bytes x a b xs (eqb-true x a e) some (eqb-true (slice_index (x ∷ xs) 1) b t)))

punct_by : (s : Start) (x : ℕ) (xs : List ℕ) → begins_punctuator s ≡ true → says s x ≡ true → IsPunctuatorFront (x ∷ xs) → (piece_by s (x ∷ xs)).0 ≡ Punct
punct_by Blank x xs m e is = cc
punct_by Letter x xs m e is = cc
punct_by Digit x xs m e is = cc
punct_by Dot x xs m e is =
    let u : List ℕ = x ∷ xs in
    let none : is_digit (slice_index u 1) ≡ false = false_from_ne_true (is_digit (slice_index u 1)) (is.no_number (ap (λ (b : ℕ). b ∷ []) (eqb-true x 46 e))) in
    ap (λ (c : Bool). (cond c (number_piece u) (punctuator_piece u)).0) none
punct_by Hash x xs m e is = cc
punct_by Slash x xs m e is =
    let u : List ℕ = x ∷ xs in
    let line = not_second x 47 47 xs e (omega arith) is.no_line_comment in
    let closed = not_second x 47 42 xs e (omega arith) is.no_comment in
    ap (λ (c : Bool). (cond c (run_piece Comment is_in_line u) (cond (slice_index u 1 == 42) (closed_piece Comment 42 47 u) (punctuator_piece u))).0) line
    ∙ ap (λ (c : Bool). (cond c (closed_piece Comment 42 47 u) (punctuator_piece u)).0) closed
punct_by Percent x xs m e is =
    let u : List ℕ = x ∷ xs in
    let line = not_second x 37 37 xs e (omega arith) is.no_line_code in
    let closed = not_second x 37 123 xs e (omega arith) is.no_code in
    ap (λ (c : Bool). (cond c (run_piece CCode is_in_line u) (cond (slice_index u 1 == 123) (closed_piece CCode 125 37 u) (punctuator_piece u))).0) line
    ∙ ap (λ (c : Bool). (cond c (closed_piece CCode 125 37 u) (punctuator_piece u)).0) closed
punct_by Quote x xs m e is = cc
punct_by Apostrophe x xs m e is = cc
punct_by Sign x xs m e is = refl
punct_by Stray x xs m e is = cc

pub front_punct : (text : List ℕ) → IsPunctuatorFront text → (first_piece text).0 ≡ Punct
unfolding first_piece
front_punct [] is = absurd (no_empty is.punctuator)
front_punct (x ∷ xs) is = punct_by (start_of x) x xs (punctuator_begins x is.punctuator) (start_says x) is

pub front_some : (text : List ℕ) → IsPunctuatorFront text → 0 < length text
front_some [] is = absurd (no_empty is.punctuator)
front_some (x ∷ xs) is = omega arith

-- ---- punctuators have the front

unlike : (x a b : ℕ) (xs : List ℕ) → (x ≡ a → ⊥) → take 2 (x ∷ xs) ≡ a ∷ b ∷ [] → ⊥
unlike x a b xs other h = other (first_is x a b xs h)

other_than : (x a b : ℕ) → (x == a) ≡ true → (a == b) ≡ false → x ≡ b → ⊥
other_than x a b e f h = grind (arith, nat_tests)

other_second : (x a b : ℕ) (xs : List ℕ) → (slice_index (x ∷ xs) 1 == b) ≡ false → take 2 (x ∷ xs) ≡ a ∷ b ∷ [] → ⊥
other_second x a b xs f h = eqb-false (slice_index (x ∷ xs) 1) b f (second_is x a b xs h)

punctuator_at : (x a : ℕ) → (x == a) ≡ true → is_punctuator (a ∷ []) ≡ true → is_punctuator (x ∷ []) ≡ true
punctuator_at x a e m = ap (λ (b : ℕ). is_punctuator (b ∷ [])) (eqb-true x a e) ∙ m

pub dot_front : (x : ℕ) (xs : List ℕ) → (x == 46) ≡ true → is_digit (slice_index (x ∷ xs) 1) ≡ false → IsPunctuatorFront (x ∷ xs)
dot_front x xs e f =
    let slash = other_than x 46 47 e refl in
    let percent = other_than x 46 37 e refl in
    record {
      punctuator = punctuator_at x 46 e dot_is;
      no_line_comment = unlike x 47 47 xs slash;
      no_comment = unlike x 47 42 xs slash;
      no_line_code = unlike x 37 37 xs percent;
      no_code = unlike x 37 123 xs percent;
      no_number = λ _ t. false≢true (sym f ∙ t);
    }

pub slash_front : (x : ℕ) (xs : List ℕ) → (x == 47) ≡ true → (slice_index (x ∷ xs) 1 == 47) ≡ false → (slice_index (x ∷ xs) 1 == 42) ≡ false → IsPunctuatorFront (x ∷ xs)
slash_front x xs e f g =
    let dot = other_than x 47 46 e refl in
    let percent = other_than x 47 37 e refl in
    record {
      punctuator = punctuator_at x 47 e slash_is;
      no_line_comment = other_second x 47 47 xs f;
      no_comment = other_second x 47 42 xs g;
      no_line_code = unlike x 37 37 xs percent;
      no_code = unlike x 37 123 xs percent;
      no_number = λ d _. dot (dot_first x xs d);
    }

pub percent_front : (x : ℕ) (xs : List ℕ) → (x == 37) ≡ true → (slice_index (x ∷ xs) 1 == 37) ≡ false → (slice_index (x ∷ xs) 1 == 123) ≡ false → IsPunctuatorFront (x ∷ xs)
percent_front x xs e f g =
    let dot = other_than x 37 46 e refl in
    let slash = other_than x 37 47 e refl in
    record {
      punctuator = punctuator_at x 37 e percent_is;
      no_line_comment = unlike x 47 47 xs slash;
      no_comment = unlike x 47 42 xs slash;
      no_line_code = other_second x 37 37 xs f;
      no_code = other_second x 37 123 xs g;
      no_number = λ d _. dot (dot_first x xs d);
    }

sign_is_no_dot : (x : ℕ) → start_of x ≡ Sign → x ≡ 46 → ⊥
unfolding start_of is_white is_letter is_digit
sign_is_no_dot x e h = let dot : start_of x ≡ Dot = ap start_of h in cc

sign_is_no_slash : (x : ℕ) → start_of x ≡ Sign → x ≡ 47 → ⊥
unfolding start_of is_white is_letter is_digit
sign_is_no_slash x e h = let slash : start_of x ≡ Slash = ap start_of h in cc

sign_is_no_percent : (x : ℕ) → start_of x ≡ Sign → x ≡ 37 → ⊥
unfolding start_of is_white is_letter is_digit
sign_is_no_percent x e h = let percent : start_of x ≡ Percent = ap start_of h in cc

pub sign_front : (x : ℕ) (xs : List ℕ) → start_of x ≡ Sign → is_punctuator (x ∷ []) ≡ true → IsPunctuatorFront (x ∷ xs)
sign_front x xs e m =
    let slash = sign_is_no_slash x e in
    let percent = sign_is_no_percent x e in
    record {
      punctuator = m;
      no_line_comment = unlike x 47 47 xs slash;
      no_comment = unlike x 47 42 xs slash;
      no_line_code = unlike x 37 37 xs percent;
      no_code = unlike x 37 123 xs percent;
      no_number = λ d _. sign_is_no_dot x e (dot_first x xs d);
    }
