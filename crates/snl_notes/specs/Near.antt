-- The word that a name is nearly spelled as.
use Rattle.std.specs.Prelude.{ℕ, ◌+◌, ◌-◌, ◌/◌, ◌==◌, ◌&&◌, Bool, List, Option, Some, None, chars, drop, fold, if◌then◌else◌, length, min, nat_le, nat_lt, slice_index, take}
use Rattle.std.specs.Str.{is_utf8}
use Rattle.strsim.specs.Edits.{osa_table}
use Rattle.snl_lex.specs.declared.kind.Kind.{Kind}
use Rattle.snl_expected.specs.Kinds.{phrase_of}
use Rattle.snl_notes.specs.declared.near.Nearest.{Nearest}

-- A phrase is a word in quotes: a small letter is after the first of these.
abbrev pub is_lower : ℕ → Bool
is_lower byte = nat_le 97 byte && nat_le byte 122

abbrev pub quotes_word : List ℕ → Bool
quotes_word phrase = slice_index phrase 0 == 39 && is_lower (slice_index phrase 1)

abbrev pub without_quotes : List ℕ → List ℕ
without_quotes phrase = take (length phrase - 2) (drop 1 phrase)

-- Bytes that are text.
abbrev pub text_in : List ℕ → Option (List ℕ)
text_in bytes = if is_utf8 bytes then Some bytes else None

-- The text of a kind that is a reserved word.
abbrev pub word_in : List ℕ → Option (List ℕ)
word_in phrase = if quotes_word phrase then text_in (without_quotes phrase) else None

abbrev pub word_of : Kind → Option (List ℕ)
word_of k = word_in (phrase_of k)

-- How many characters have to be put in, left out or replaced, or change places with the next one.
abbrev pub distance : List ℕ → List ℕ → ℕ
distance name word = (osa_table (chars name) (chars word)).last_row (length (chars word))

-- So many are few: one in three of the name's bytes, and three at most.
abbrev pub few : List ℕ → ℕ
few name = min (length name / 3) 3

-- The nearest word so far: one that is nearer takes its place.
abbrev pub nearer_by : List ℕ → Nearest → Kind → Option (List ℕ) → Nearest
nearer_by name nearest k None = nearest
nearer_by name nearest k (Some word) =
    if nat_lt (distance name word) nearest.below
    then record { word = Some k; below = distance name word } else nearest

abbrev pub nearer : List ℕ → Nearest → Kind → Nearest
nearer name nearest k = nearer_by name nearest k (word_of k)

abbrev pub none_yet : List ℕ → Nearest
none_yet name = record { word = None; below = few name + 1 }

abbrev pub nearest_of : List ℕ → List Kind → Nearest
nearest_of name kinds = fold (nearer name) (none_yet name) kinds

-- A longer name is no word with three changes.
abbrev pub longest : ℕ
longest = 16

-- The first of the nearest words among these kinds, if few changes of the name lead to one.
unfoldable pub near_word : List ℕ → List Kind → Option Kind
near_word name kinds =
    if nat_le (length name) longest then (nearest_of name kinds).word else None
