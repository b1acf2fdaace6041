-- What the first bytes of a text say of its first piece.
use Rattle.std.specs.Prelude.{◌≡◌, ℕ, true, List, codes, slice_index, take}
use Rattle.snl_lex.specs.Alphabet.{is_digit, is_punctuator}

-- The first byte is a punctuator, and the front begins no comment, no embedded C and no number.
pub record IsPunctuatorFront (text : List ℕ) : Type 0 where
  pub punctuator : is_punctuator (take 1 text) ≡ true
  pub no_line_comment : take 2 text ≡ codes "//" → ⊥
  pub no_comment : take 2 text ≡ codes "/*" → ⊥
  pub no_line_code : take 2 text ≡ codes "%%" → ⊥
  pub no_code : take 2 text ≡ codes "%{" → ⊥
  pub no_number : take 1 text ≡ codes "." → is_digit (slice_index text 1) ≡ true → ⊥
