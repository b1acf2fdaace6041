-- What the first piece of a text reaches: the longest run, the first closing pair, the longest
-- punctuator.
use Rattle.std.specs.Prelude.{◌≡◌, ℕ, zero, suc, ◌+◌, ◌-◌, ◌<◌, ◌≤◌, ◌⊎◌, ◌==◌, Bool, true, false, not, ◌&&◌, ◌||◌, List, [], ◌∷◌, length, slice_index, take, drop}
use Rattle.std.specs.List.{list_all}
use Rattle.snl_lex.specs.declared.piece.Class.{Class}
use Rattle.snl_lex.specs.declared.piece.Class.TheVariants.{Bad}
use Rattle.snl_lex.specs.Alphabet.{is_punctuator, is_plain, is_word_byte}
use Rattle.snl_lex.specs.Numbers.{is_power, is_sign}

-- The longest run of bytes of a set that the text begins with.
pub record IsLongestRun (passes : ℕ → Bool) (text : List ℕ) (len : ℕ) : Type 0 where
  pub inside : len ≤ length text
  pub run : list_all passes (take len text) ≡ true
  pub longest : (n : ℕ) → n ≤ length text → list_all passes (take n text) ≡ true → n ≤ len

-- The longest of the punctuators that the text begins with.
pub record IsLongestPunctuator (text : List ℕ) (len : ℕ) : Type 0 where
  pub inside : len ≤ length text
  pub punctuator : is_punctuator (take len text) ≡ true
  pub longest : (n : ℕ) → n ≤ length text → is_punctuator (take n text) ≡ true → n ≤ len

-- The two bytes are at a place.
abbrev pub StandAt : ℕ → ℕ → List ℕ → ℕ → Type 0
StandAt a b text place = take 2 (drop place text) ≡ a ∷ b ∷ []

-- After its first two bytes, the piece goes on up to and with the first `a b`.
pub record IsFirstClose (a : ℕ) (b : ℕ) (text : List ℕ) (len : ℕ) : Type 0 where
  pub after : 4 ≤ len
  pub closes : StandAt a b text (len - 2)
  pub first : (place : ℕ) → 2 ≤ place → StandAt a b text place → len ≤ place + 2

-- No `a b` is after the first two bytes.
abbrev pub IsUnclosed : ℕ → ℕ → List ℕ → Type 0
IsUnclosed a b text = (place : ℕ) → 2 ≤ place → StandAt a b text place → ⊥

-- A piece of the class ends with the first `a b`; without one it is the rest of the text, and
-- faulty.
abbrev pub ClosesFirst : Class → ℕ → ℕ → List ℕ → Class × ℕ → Type 0
ClosesFirst kind a b text piece = ((piece.0 ≡ kind) × IsFirstClose a b text piece.1) ⊎ ((piece.0 ≡ Bad) × (piece.1 ≡ length text) × IsUnclosed a b text)

-- A piece of the class that is the longest run of bytes of the set.
abbrev pub IsRunOf : Class → (ℕ → Bool) → List ℕ → Class × ℕ → Type 0
IsRunOf kind passes text piece = (piece.0 ≡ kind) × IsLongestRun passes text piece.1

-- The byte with a number goes on a number run: a letter, a digit, `_` or `.`, or a sign directly
-- after an `e` or `E` before which the run has digits and dots alone.
abbrev pub goes_on : List ℕ → ℕ → Bool
goes_on text n =
    is_word_byte (slice_index text n) || slice_index text n == 46
    || (is_sign (slice_index text n) && (is_power (slice_index text (n - 1)) && list_all is_plain (take (n - 1) text)))

-- So many bytes, after the first, go on a number run.
abbrev pub IsNumberRun : List ℕ → ℕ → Type 0
IsNumberRun text len = (n : ℕ) → 1 ≤ n → n < len → goes_on text n ≡ true

-- The longest number run that the text begins with.
pub record IsLongestNumber (text : List ℕ) (len : ℕ) : Type 0 where
  pub inside : len ≤ length text
  pub run : IsNumberRun text len
  pub longest : (n : ℕ) → n ≤ length text → IsNumberRun text n → n ≤ len

-- The byte with a number is taken by a backslash directly before it. A backslash that is taken
-- itself takes nothing.
abbrev pub is_taken_at : List ℕ → ℕ → Bool
is_taken_at text zero = false
is_taken_at text (suc n) = slice_index text n == 92 && not (is_taken_at text n)

-- The byte with a number stops a string: a quote as the first one, or a line's end, that no
-- backslash takes.
abbrev pub stops_string : ℕ → List ℕ → ℕ → Bool
stops_string quote text n = not (is_taken_at text n) && (slice_index text n == quote || slice_index text n == 10)

-- After its quote a string goes on up to the first byte that stops it, or to the end of the text.
pub record IsFirstStop (quote : ℕ) (text : List ℕ) (place : ℕ) : Type 0 where
  pub after : 1 ≤ place
  pub first : (n : ℕ) → 1 ≤ n → n < place → stops_string quote text n ≡ false
  pub stops : (place ≡ length text) ⊎ (stops_string quote text place ≡ true)

-- With a quote at its first stop, a string is of the class and ends with that quote; without, it is
-- faulty and ends before the stop.
abbrev pub IsString : Class → ℕ → List ℕ → Class × ℕ → Type 0
IsString kind quote text piece =
    (place : ℕ) × (IsFirstStop quote text place × (((slice_index text place ≡ quote) × (piece.0 ≡ kind) × (piece.1 ≡ 1 + place)) ⊎ ((slice_index text place ≡ quote → ⊥) × (piece.0 ≡ Bad) × (piece.1 ≡ place))))
