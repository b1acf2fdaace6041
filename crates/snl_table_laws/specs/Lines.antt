-- Lines of bytes that print in ASCII, and the rows of tables, each of which a listing shows in a
-- line of its own.
use Rattle.std.specs.Prelude.{◌≡◌, ℕ, ◌+◌, ◌<◌, ◌≤◌, All, List, [], ◌∷◌, ◌++◌, length, map, sum}
use Rattle.std.specs.List.{concat}
use Rattle.snl_tables.specs.declared.rows.ChannelRow.{ChannelRow}
use Rattle.snl_tables.specs.declared.rows.OptionRow.{OptionRow}
use Rattle.snl_tables.specs.declared.rows.SetRow.{SetRow}
use Rattle.snl_tables.specs.declared.rows.StateMark.{StateMark}
use Rattle.snl_tables.specs.declared.rows.StateMark.TheVariants.{Faulty, Repeated, Unknown, Reached, Unreached}
use Rattle.snl_tables.specs.declared.rows.StateRow.{StateRow}
use Rattle.snl_tables.specs.declared.rows.Tables.{Tables}

abbrev pub IsByte : ℕ → Type 0
IsByte b = b < 256

-- ASCII has a glyph for it, or it is a space.
abbrev pub IsPrinted : ℕ → Type 0
IsPrinted b = (32 ≤ b) × (b ≤ 126)

-- Bytes that print, and after them the one LF of the line.
pub record IsLine (bytes : List ℕ) : Type 0 where
  pub shown : List ℕ
  pub prints : All IsPrinted shown
  pub whole : bytes ≡ shown ++ 10 ∷ []

-- So many lines, one after another.
pub record AreLines (count : ℕ) (bytes : List ℕ) : Type 0 where
  pub lines : List (List ℕ)
  pub each : All IsLine lines
  pub joined : bytes ≡ concat lines
  pub number : count ≡ length lines

-- ---- rows

-- What a state that isn't faulty has: its options, transitions and states that statements name, and
-- its wake-up set.
abbrev pub state_details : StateRow → ℕ
state_details state = length state.options + (length state.transitions + (length state.gotos + 1))

abbrev pub unless_faulty : StateMark → ℕ → ℕ
unless_faulty Faulty n = 0
unless_faulty Repeated n = n
unless_faulty Unknown n = n
unless_faulty Reached n = n
unless_faulty Unreached n = n

abbrev pub rows_of_state : StateRow → ℕ
rows_of_state state = 1 + unless_faulty state.mark (state_details state)

abbrev pub rows_of_set : SetRow → ℕ
rows_of_set set = 1 + sum (map rows_of_state set.states)

-- How many rows tables have: the program's name, its options, the event flags, the channels, and
-- the state sets with their states.
abbrev pub rows_of : Tables → ℕ
rows_of tables = 1 + (length tables.options + (length tables.flags + (length tables.channels + sum (map rows_of_set tables.sets))))

-- ---- what of the rows is no span of the text

abbrev pub HasByteLetter : OptionRow → Type 0
HasByteLetter row = IsByte row.letter

abbrev pub HasByteOptions : StateRow → Type 0
HasByteOptions state = All HasByteLetter state.options

abbrev pub HasBytePv : ChannelRow → Type 0
HasBytePv channel = All IsByte channel.pv

-- Options' letters and channels' names are bytes.
pub record HasBytes (tables : Tables) : Type 0 where
  pub options : All HasByteLetter tables.options
  pub channels : All HasBytePv tables.channels
  pub states : All (λ set. All HasByteOptions set.states) tables.sets
