-- What the tables of a text of bytes have beside spans: letters and names of bytes.
use Rattle.std.proofs.Common.{ℕ, ◌-◌, Bool, List, [], ◌∷◌, length, drop, Option, Some, None, arith}
use Rattle.std.specs.Prelude.{All, option_map, slice_get}
use Rattle.std.specs.List.{cons_option, enumerate_from, flat_map}
use Rattle.std.proofs.lemmas.List.Elements.{All-append, All-cons, All-drop, All-from_recursion, All-head, All-map, All-nil, All-tail, All-take}
use Rattle.snl_lex.specs.declared.piece.Piece.{Piece}
use Rattle.snl_summary.specs.declared.summary.Outline.{Outline}
use Rattle.snl_scope.specs.Below.{all_below}
use Rattle.snl_scope.specs.Places.{is_set_begin}
use Rattle.snl_check.specs.Members.{states_in}
use Rattle.snl_tables.specs.declared.rows.OptionRow.{OptionRow}
use Rattle.snl_tables.specs.declared.rows.SetRow.{SetRow}
use Rattle.snl_walk.specs.Tokens.{bytes_if, token_bytes}
use Rattle.snl_check.specs.Channels.{AssignedChannel, assigned_channels, between_quotes, joined}
use Rattle.snl_item_check.specs.Items.{ProgramItem, outlines_of, tokens_in}
use Rattle.snl_check.specs.Settings.{LetterSetting, last_setting, letters_of_program, letters_of_state, option_row, option_rows, program_settings, settings_in_member}
use Rattle.snl_check.specs.States.{item_at, members_in, numbered_row, set_row, state_rows}
use Rattle.snl_check.specs.Tables.{channel_row, tables_of}
use Rattle.snl_table_laws.specs.Lines.{HasByteLetter, HasByteOptions, HasBytePv, HasBytes, IsByte}

-- ---- lists

-- What holds of each value holds of the elements of a list.
all_of : {X : Type 0} (P : X → Type 0) → ((x : X) → P x) → (xs : List X) → All P xs
all_of P h [] = All-nil P
all_of P h (x ∷ xs) = All-cons P x xs (h x) (all_of P h xs)

all_joined : {X Y : Type 0} (P : Y → Type 0) (f : X → List Y) → ((x : X) → All P (f x)) → (xs : List X) → All P (flat_map f xs)
all_joined P f h [] = All-nil P
all_joined P f h (x ∷ xs) = All-append P (f x) (flat_map f xs) (h x) (all_joined P f h xs)

-- ---- options

said_row : (letter : ℕ) → IsByte letter → (said : Option Bool) (rows : List OptionRow) → All HasByteLetter rows
    → All HasByteLetter (cons_option (option_map (option_row letter) said) rows)
said_row letter h None rows all = all
said_row letter h (Some is_set) rows all = All-cons HasByteLetter (option_row letter is_set) rows h all

rows_of_bytes : (settings : List LetterSetting) (letters : List ℕ) → All IsByte letters → All HasByteLetter (option_rows letters settings)
rows_of_bytes settings [] h = All-nil HasByteLetter
rows_of_bytes settings (letter ∷ letters) h =
    said_row letter (All-head IsByte letter letters h) (last_setting letter settings) (option_rows letters settings) (rows_of_bytes settings letters (All-tail IsByte letter letters h))

program_letters_are_bytes : All IsByte letters_of_program
program_letters_are_bytes = All-from_recursion IsByte letters_of_program (omega arith, (omega arith, (omega arith, (omega arith, (omega arith, (omega arith, (omega arith, (omega arith, (omega arith, (omega arith, (omega arith, tt)))))))))))

state_letters_are_bytes : All IsByte letters_of_state
state_letters_are_bytes = All-from_recursion IsByte letters_of_state (omega arith, (omega arith, (omega arith, tt)))

-- ---- channels

bytes_of_token : (text : List ℕ) → All IsByte text → (piece : Option Piece) → All IsByte (bytes_if text piece)
bytes_of_token text h None = All-nil IsByte
bytes_of_token text h (Some piece) = All-take IsByte piece.len (drop piece.start text) (All-drop IsByte piece.start text h)

token_is_bytes : (text : List ℕ) → All IsByte text → (tokens : List Piece) (number : ℕ) → All IsByte (token_bytes text tokens number)
unfolding token_bytes
token_is_bytes text h tokens number = bytes_of_token text h (slice_get tokens number)

quoted_is_bytes : (bytes : List ℕ) → All IsByte bytes → All IsByte (between_quotes bytes)
quoted_is_bytes bytes h = All-take IsByte (length bytes - 2) (drop 1 bytes) (All-drop IsByte 1 bytes h)

name_is_bytes : (text : List ℕ) → All IsByte text → (tokens : List Piece) (strings : List ℕ) → All IsByte (joined text tokens strings)
name_is_bytes text h tokens strings =
    all_joined IsByte (λ n. between_quotes (token_bytes text tokens n)) (λ n. quoted_is_bytes (token_bytes text tokens n) (token_is_bytes text h tokens n)) strings

-- ---- tables

states_of_bytes : (text : List ℕ) (xs : List ProgramItem) (ss : List Outline) (k : ℕ) → All HasByteOptions (state_rows text xs ss k)
states_of_bytes text xs ss k =
    All-map HasByteOptions (numbered_row text xs ss k) (enumerate_from 0 (states_in ss k))
    (all_of (λ (p : ℕ × ℕ). HasByteOptions (numbered_row text xs ss k p)) (λ p. state_of_bytes p.0 p.1) (enumerate_from 0 (states_in ss k)))
  where
    state_of_bytes : (number item : ℕ) → HasByteOptions (numbered_row text xs ss k (number, item))
    state_of_bytes number item =
        rows_of_bytes (flat_map (settings_in_member (token_bytes text (tokens_in xs item))) (members_in ((item_at xs item).tree))) letters_of_state state_letters_are_bytes

pub tables_of_bytes : (text : List ℕ) (xs : List ProgramItem) → All IsByte text → HasBytes (tables_of text xs)
tables_of_bytes text xs h = record {
  options = rows_of_bytes (program_settings text xs ss) letters_of_program program_letters_are_bytes;
  channels = All-map HasBytePv (channel_row text xs ss) (assigned_channels text xs ss)
      (all_of (λ (c : AssignedChannel). HasBytePv (channel_row text xs ss c)) (λ c. name_is_bytes text h (tokens_in xs c.item) c.strings) (assigned_channels text xs ss));
  states = All-map (λ (set : SetRow). All HasByteOptions set.states) (set_row text xs ss) (all_below (is_set_begin ss) (length ss))
      (all_of (λ (k : ℕ). All HasByteOptions (state_rows text xs ss k)) (states_of_bytes text xs ss) (all_below (is_set_begin ss) (length ss)));
}
  where
    ss : List Outline
    ss = outlines_of text xs
