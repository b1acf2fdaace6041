-- What is said of the token at which a faulty item stops making one.
use Rattle.std.specs.Prelude.{◌≡◌, ℕ, ◌==◌, Bool, false, List, Option, Some, None, if◌then◌else◌, option_and_then, option_map, slice_get, string_bytes}
use Rattle.snl_lex.specs.declared.piece.Piece.{Piece}
use Rattle.snl_lex.specs.Pieces.{piece_end}
use Rattle.snl_grammar.specs.declared.outcome.Parsed.{Parsed}
use Rattle.snl_grammar.specs.declared.outcome.Parsed.TheVariants as parsed
use Rattle.snl_grammar.specs.Outcome.{parsed_in}
use Rattle.snl_notes.specs.declared.note.Wanted.{Wanted}
use Rattle.snl_notes.specs.declared.note.Wanted.TheVariants as wanted
use Rattle.snl_notes.specs.Notes.{Said, note_of}
use Rattle.snl_tables.specs.declared.rows.Span.{Span}
use Rattle.snl_kept.specs.Program.{item_tokens}
use Rattle.snl_questions.specs.Items.{span_of}
use Rattle.snl_questions.specs.Meanings.{place_from}
use Rattle.snl_questions.specs.declared.meanings.items.TokenPlace.{TokenPlace}
use Rattle.snl_questions.specs.declared.fault_notes.note_at.FaultNote.{FaultNote}

-- ---- a token of an item

-- What is told of a token: which one, where something is wanted, and the words.
pub record FaultTold : Type 0 where
  pub token : Span
  pub wanted : ℕ
  pub words : List ℕ

abbrev pub fault_told : FaultNote → FaultTold
fault_told note = record {
  token = note.token;
  wanted = note.wanted;
  words = string_bytes note.words;
}

-- Something is wanted at the token's first byte, or right after its last one.
abbrev pub wanted_at : Piece → Wanted → ℕ
wanted_at token (wanted.InPlaceOf at) = token.start
wanted_at token (wanted.After at) = piece_end token

abbrev pub told_by : Piece → Said → FaultTold
told_by token said = record {
  token = span_of token;
  wanted = wanted_at token said.wanted;
  words = said.words;
}

-- ---- the token at fault

-- Which token the parser blames: a faulty one gets no note.
abbrev pub blamed_by : Parsed → Option ℕ
blamed_by (parsed.Sound tree) = None
blamed_by (parsed.BadToken at) = None
blamed_by (parsed.NoItem at) = Some at

abbrev pub blamed_in : List ℕ → List Piece → Option ℕ
blamed_in text own = blamed_by (parsed_in text own)

abbrev pub is_blamed : Option ℕ → (n : ℕ) → Bool
is_blamed None n = false
is_blamed (Some at) n = at == n

-- ---- a token of a text

-- What is said of a token of an item, which has a number among these: of the one at fault alone.
abbrev pub said_if : Bool → List ℕ → List Piece → (n : ℕ) → Option Said
said_if is_fault text own n = if is_fault then note_of text own n else None

abbrev pub told_of_token : List ℕ → List Piece → (n : ℕ) → Piece → Option FaultTold
told_of_token text own n token =
    option_map (told_by token) (said_if (is_blamed (blamed_in text own) n) text own n)

abbrev pub told_in_item : List ℕ → (n : ℕ) → List Piece → Option FaultTold
told_in_item text n own = option_and_then (told_of_token text own n) (slice_get own n)

abbrev pub told_at_place : List ℕ → TokenPlace → Option FaultTold
told_at_place text p =
    option_and_then (told_in_item text p.token) (slice_get (item_tokens text) p.item)

-- The note on the token that has the byte at an offset of a text, if it is at fault.
unfoldable pub fault_noted : List ℕ → (offset : ℕ) → Option FaultTold
fault_noted text offset =
    option_and_then (told_at_place text) (place_from offset 0 (item_tokens text))

-- ---- the law

-- Token `at` of an item of the text is at fault.
pub record IsFault (text : List ℕ) (own : List Piece) (at : ℕ) (token : Piece) : Type 0 where
  pub item : ℕ
  pub own_at : slice_get (item_tokens text) item ≡ Some own
  pub token_at : slice_get own at ≡ Some token
  pub blamed : parsed_in text own ≡ parsed.NoItem at
