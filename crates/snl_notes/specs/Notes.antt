-- What is said where the tokens of an item stop making one: where something is wanted, and what may
-- come there.
use Rattle.std.specs.Prelude.{ℕ, ◌++◌, Bool, true, false, List, [], ◌∷◌, Option, Some, None, if◌then◌else◌, length, drop, nat_lt, option_map, slice_get, string_bytes, take}
use Rattle.snl_lex.specs.declared.kind.Kind.{Kind}
use Rattle.snl_lex.specs.declared.kind.Kind.TheVariants as kind
use Rattle.snl_lex.specs.declared.piece.Piece.{Piece}
use Rattle.snl_grammar.specs.Parsing.{kind_in, kinds_in}
use Rattle.snl_expected.specs.Expected.{comes, expected_of, others_of}
use Rattle.snl_expected.specs.Groups.{Described, description_of}
use Rattle.snl_notes.specs.declared.note.Note.{Note}
use Rattle.snl_notes.specs.declared.note.Wanted.{Wanted}
use Rattle.snl_notes.specs.declared.note.Wanted.TheVariants as wanted
use Rattle.snl_notes.specs.Near.{near_word, text_in}
use Rattle.snl_notes.specs.Words.{sentence}

-- ---- the words

-- What may come after tokens of these kinds, in few words.
abbrev pub description_after : List Kind → Described
description_after before = description_of (expected_of before) (others_of before)

-- The word that may have been meant by the name that stands there instead, if one does.
abbrev pub meant_word : Option (List ℕ) → (expected : List Kind) → Option Kind
meant_word None expected = None
meant_word (Some name) expected = near_word name expected

unfoldable pub words_after : List Kind → Option (List ℕ) → List ℕ
words_after before name = sentence (description_after before) (meant_word name (expected_of before))

-- ---- the place

abbrev pub name_of : Kind → List ℕ → Option (List ℕ)
name_of kind.Name bytes = text_in bytes
name_of _ bytes = None

-- A note: where something is wanted, and its words.
pub record Said : Type 0 where
  pub wanted : Wanted
  pub words : List ℕ

abbrev pub said_by : Note → Said
said_by note = record { wanted = note.wanted; words = string_bytes note.words }

-- The token at fault may come, so something is missing after it; or something is wanted in the
-- place of it.
abbrev pub said_if : (may_come : Bool) → List Kind → Kind → List ℕ → Said
said_if true before fault bytes = record {
  wanted = wanted.After (length before);
  words = words_after (before ++ fault ∷ []) None;
}
said_if false before fault bytes = record {
  wanted = wanted.InPlaceOf (length before);
  words = words_after before (name_of fault bytes);
}

-- What is said of the token at fault, by the kinds of those before it, its own kind and its bytes.
unfoldable pub said_of : List Kind → Kind → List ℕ → Said
said_of before fault bytes = said_if (comes before fault) before fault bytes

-- ---- the note

-- A token is noted only where it is one of the first of its item, so many.
abbrev pub first_tokens : ℕ
first_tokens = 4096

abbrev pub bytes_of : List ℕ → Piece → List ℕ
bytes_of text token = take token.len (drop token.start text)

abbrev pub said_at : List ℕ → List Piece → Piece → Said
said_at text before token = said_of (kinds_in text before) (kind_in text token) (bytes_of text token)

-- The note on the token with a number, which is at fault in the item that consists of these.
unfoldable pub note_of : List ℕ → List Piece → (at : ℕ) → Option Said
note_of text tokens at = if nat_lt at first_tokens
    then option_map (said_at text (take at tokens)) (slice_get tokens at) else None
