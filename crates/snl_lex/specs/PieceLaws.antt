-- What follows from the definitions of pieces: of their first bytes, their values, and where tokens
-- move.
use Rattle.std.proofs.Common.{◌≡◌, ℕ, ◌<◌, Bool, true, false, cond, List, [], ◌∷◌, map, filter, Some, refl, ap, arith}
use Rattle.std.proofs.lemmas.Bool.{cond-true}
use Rattle.std.proofs.lemmas.Bool.Decides.{nat_tests}
use Rattle.snl_lex.specs.declared.alphabet.Start.{Start}
use Rattle.snl_lex.specs.declared.alphabet.Start.TheVariants.{Blank, Letter, Digit}
use Rattle.snl_lex.specs.declared.piece.Piece.{Piece}
use Rattle.snl_lex.specs.Alphabet.{is_digit, is_letter, is_punctuator, is_white, start_of}
use Rattle.snl_lex.specs.Numbers.{checked_value}
use Rattle.snl_lex.specs.Pieces.{is_token, moved_piece}

-- ---- first bytes

pub dot_is : is_punctuator (46 ∷ []) ≡ true
unfolding is_punctuator
dot_is = refl

pub slash_is : is_punctuator (47 ∷ []) ≡ true
unfolding is_punctuator
slash_is = refl

pub percent_is : is_punctuator (37 ∷ []) ≡ true
unfolding is_punctuator
percent_is = refl

pub pick_no : (c : Bool) (s t r : Start) → c ≡ false → t ≡ r → cond c s t ≡ r
pick_no true s t r h e = cc
pick_no false s t r h e = e

pub digit_not_white : (x : ℕ) → is_digit x ≡ true → is_white x ≡ false
unfolding is_digit is_white
digit_not_white x h = grind (arith, nat_tests)

pub digit_not_letter : (x : ℕ) → is_digit x ≡ true → is_letter x ≡ false
unfolding is_digit is_letter
digit_not_letter x h = grind (arith, nat_tests)

pub digit_start : (x : ℕ) → is_digit x ≡ true → start_of x ≡ Digit
unfolding start_of
digit_start x h = pick_no (is_white x) Blank _ Digit (digit_not_white x h) (pick_no (is_letter x) Letter _ Digit (digit_not_letter x h) (cond-true (is_digit x) Digit _ h))

-- ---- values, and tokens that move

pub small_enough : (v : ℕ) → v < 18446744073709551616 → checked_value v ≡ Some v
small_enough v h = grind (arith, nat_tests)

-- Tokens stay tokens where they are moved.
pub tokens_moved : (b c : ℕ) (ps : List Piece) → filter is_token (map (moved_piece b c) ps) ≡ map (moved_piece b c) (filter is_token ps)
tokens_moved b c [] = refl
tokens_moved b c (p ∷ ps) =
    let rest = tokens_moved b c ps in
    let step : (t : Bool) → cond t (moved_piece b c p ∷ filter is_token (map (moved_piece b c) ps)) (filter is_token (map (moved_piece b c) ps)) ≡ map (moved_piece b c) (cond t (p ∷ filter is_token ps) (filter is_token ps)) =
    elim [ true ↦ ap (λ (l : List Piece). moved_piece b c p ∷ l) rest | false ↦ rest ] in
    step (is_token p)
