-- What a hover says of the name near an offset of a text: lines, joined by LF. The first is the line
-- of the declaration; the others are what the tables of the text say of what the name means.
use Rattle.std.specs.Prelude.{ℕ, ◌+◌, ◌-◌, ◌==◌, ◌&&◌, Bool, nat_le, nat_lt, if◌then◌else◌, List, [], ◌∷◌, ◌++◌, length, map, take, drop, find, position, slice_get, Option, Some, None, option_map, codes, decimal}
use Rattle.std.specs.Char.{is_ascii_whitespace}
use Rattle.std.specs.Fmt.Cut.{floor_char_boundary}
use Rattle.std.specs.List.{concat, flat_map, join_with_byte, prefix_len, suffix_len}
use Rattle.std.specs.Option.{option_map_or, option_or}
use Rattle.snl_place.specs.Lines.{line_around}
use Rattle.snl_tables.specs.declared.rows.ChannelRow.{ChannelRow}
use Rattle.snl_tables.specs.declared.rows.FlagRow.{FlagRow}
use Rattle.snl_tables.specs.declared.rows.Queue.{Queue}
use Rattle.snl_tables.specs.declared.rows.Queue.TheVariants.{Unqueued, Default, Length}
use Rattle.snl_tables.specs.declared.rows.SetRow.{SetRow}
use Rattle.snl_tables.specs.declared.rows.Span.{Span}
use Rattle.snl_tables.specs.declared.rows.StateRow.{StateRow}
use Rattle.snl_tables.specs.declared.rows.Synced.{Synced}
use Rattle.snl_tables.specs.declared.rows.Tables.{Tables}
use Rattle.snl_tables.specs.WakeSets.{channels_of, wake_channels, wake_flags}
use Rattle.snl_listing.specs.Listing.{mark_text}
use Rattle.snl_kept.specs.Tables.{tables_in}
use Rattle.snl_questions.specs.declared.meanings.near.Meaning.{Meaning}
use Rattle.snl_questions.specs.Meanings.{meaning_of, span_bytes}
use Rattle.snl_questions.specs.FaultNotes.{FaultTold, fault_noted}
use Rattle.snl_questions.specs.declared.hovers.near.Hover.{Hover}
use Rattle.snl_questions.specs.declared.hovers.states.Waker.{Waker}
use Rattle.snl_questions.specs.declared.hovers.states.Waker.TheVariants.{Flag, Channel}

-- ---- the line of the declaration

-- A line without the white space that it begins with, and without that at both its ends.
abbrev pub without_indent : List ℕ → List ℕ
without_indent line = drop (prefix_len is_ascii_whitespace line) line

abbrev pub without_blanks_at_end : List ℕ → List ℕ
without_blanks_at_end line = take (length line - suffix_len is_ascii_whitespace line) line

abbrev pub without_blanks : List ℕ → List ℕ
without_blanks line = without_blanks_at_end (without_indent line)

-- So many bytes of a line are shown at most.
abbrev pub longest : ℕ
longest = 200

-- A longer line ends at the last place up to there at which a character of UTF-8 begins.
abbrev pub cut : List ℕ → List ℕ
cut line =
    if nat_le (length line) longest then line else take (floor_char_boundary line longest) line

-- The line that has the name in its declaration.
unfoldable pub declaration_line : List ℕ → Span → List ℕ
declaration_line text name = cut (without_blanks (line_around text name.start))

-- ---- a few of many

-- So many channels are shown at most, and so many names.
abbrev pub most : ℕ
most = 8

-- `..`, where there are more.
abbrev pub more : {X : Type 0} → List X → List (List ℕ)
more xs = if nat_lt most (length xs) then codes ".." ∷ [] else []

-- What is said of each of the first ones.
abbrev pub first_said : {X : Type 0} → (X → List ℕ) → List X → List (List ℕ)
first_said says xs = map says (take most xs) ++ more xs

-- ---- the channels of a variable

-- The name of the event flag with a number; they are counted from 1.
abbrev pub flag_name : List ℕ → List FlagRow → (number : ℕ) → List ℕ
flag_name text flags number =
    option_map_or (λ row. span_bytes text row.name) (slice_get flags (number - 1)) []

-- `[I]`, of an element.
abbrev pub index_text : Option ℕ → List ℕ
index_text None = []
index_text (Some element) = concat (codes "[" ∷ decimal element ∷ codes "]" ∷ [])

-- ` [I]`, where the channel is that of an element.
abbrev pub element_text : Option ℕ → List ℕ
element_text None = []
element_text (Some element) = codes " " ++ index_text (Some element)

-- ` monitored`, where it is.
abbrev pub monitored_text : Bool → List ℕ
monitored_text is_monitored = if is_monitored then codes " monitored" else []

-- ` FLAG`, where the clause names an event flag.
abbrev pub named_flag : List ℕ → List FlagRow → Option ℕ → List ℕ
named_flag text flags None = []
named_flag text flags (Some number) = codes " " ++ flag_name text flags number

abbrev pub sync_word : Queue → List ℕ
sync_word Unqueued = codes ", sync"
sync_word Default = codes ", syncq"
sync_word (Length size) = codes ", syncq"

-- ` SIZE`, where the clause has that of the queue.
abbrev pub size_text : Queue → List ℕ
size_text Unqueued = []
size_text Default = []
size_text (Length size) = codes " " ++ decimal size

-- `, sync FLAG` or `, syncq FLAG SIZE`, where it is synced.
abbrev pub sync_text : List ℕ → List FlagRow → Option Synced → List ℕ
sync_text text flags None = []
sync_text text flags (Some sync) =
    concat (sync_word sync.queue ∷ named_flag text flags sync.flag ∷ size_text sync.queue ∷ [])

-- `channel N [I] "PV" monitored, sync FLAG`, of the channel with a number.
unfoldable pub channel_text : List ℕ → List FlagRow → (number : ℕ) → ChannelRow → List ℕ
channel_text text flags number row =
    concat (codes "channel " ∷ decimal number ∷ element_text row.element ∷ codes " \"" ∷ row.pv
    ∷ codes "\"" ∷ monitored_text row.is_monitored ∷ sync_text text flags row.sync ∷ [])

abbrev pub channel_line : List ℕ → Tables → (number : ℕ) → List ℕ
channel_line text tables number =
    option_map_or (channel_text text tables.flags number) (slice_get tables.channels number) []

-- The numbers of the channels of a variable, by that of its declaration. What is no declaration of
-- the program, of a state set or of a state has none.
abbrev pub channels_with : Tables → (declaration : Option ℕ) → List ℕ
channels_with tables None = []
channels_with tables (Some declaration) = channels_of tables.variables declaration

unfoldable pub channel_lines : List ℕ → Tables → (declaration : Option ℕ) → List (List ℕ)
channel_lines text tables declaration =
    first_said (channel_line text tables) (channels_with tables declaration)

-- ---- an event flag

-- The name in a row is that which is declared.
abbrev pub is_span : Span → Span → Bool
is_span declared name = (name.start == declared.start) && (name.len == declared.len)

abbrev pub is_flag : Span → FlagRow → Bool
is_flag declared row = is_span declared row.name

-- `event flag N`; N counts from 1.
abbrev pub flag_line : (place : ℕ) → List ℕ
flag_line place = codes "event flag " ++ decimal (place + 1)

unfoldable pub flag_lines : List FlagRow → Span → List (List ℕ)
flag_lines flags declared =
    option_map_or (λ place. flag_line place ∷ []) (position (is_flag declared) flags) []

-- ---- a state

abbrev pub is_state : Span → StateRow → Bool
is_state declared row = is_span declared row.name

-- The state that is declared, among those of all sets.
abbrev pub state_declared : Span → List SetRow → Option StateRow
state_declared declared sets = find (is_state declared) (flat_map (λ set. set.states) sets)

-- What a state wakes on, as the listing has it: its event flags, then its channels.
abbrev pub wakers : Tables → StateRow → List Waker
wakers tables state =
    map Flag (wake_flags tables state) ++ map Channel (wake_channels tables state)

-- `VARIABLE`, or `VARIABLE[I]`, of the channel with a number.
abbrev pub channel_name : List ℕ → List ChannelRow → (number : ℕ) → List ℕ
channel_name text channels number =
    option_map_or (λ row. span_bytes text row.variable ++ index_text row.element)
    (slice_get channels number) []

abbrev pub waker_name : List ℕ → Tables → Waker → List ℕ
waker_name text tables (Flag number) = flag_name text tables.flags number
waker_name text tables (Channel number) = channel_name text tables.channels number

-- `wakes on NAME, ..`, where there are names.
abbrev pub after_comma : List ℕ → List ℕ
after_comma name = codes ", " ++ name

abbrev pub wake_line : List (List ℕ) → List (List ℕ)
wake_line [] = []
wake_line (name ∷ names) = concat (codes "wakes on " ∷ name ∷ flat_map after_comma names ∷ []) ∷ []

abbrev pub wake_lines : List ℕ → Tables → List Waker → List (List ℕ)
wake_lines text tables all = wake_line (first_said (waker_name text tables) all)

-- Its mark, in the words of the listing, and what it wakes on.
abbrev pub row_lines : List ℕ → Tables → StateRow → List (List ℕ)
row_lines text tables state = mark_text state.mark ∷ wake_lines text tables (wakers tables state)

unfoldable pub state_lines : List ℕ → Tables → Span → List (List ℕ)
state_lines text tables declared =
    option_map_or (row_lines text tables) (state_declared declared tables.sets) []

-- ---- all lines

-- What the tables say of what a name means.
abbrev pub table_lines : List ℕ → Tables → Meaning → List (List ℕ)
table_lines text tables m =
    channel_lines text tables m.number
    ++ (flag_lines tables.flags m.declared ++ state_lines text tables m.declared)

abbrev pub lines_of : List ℕ → Meaning → List (List ℕ)
lines_of text m = declaration_line text m.declared ∷ table_lines text (tables_in text) m

-- Lines after another one: each comes after the LF that ends the line before it.
abbrev pub further : List (List ℕ) → List ℕ
further lines = flat_map (λ line. 10 ∷ line) lines

-- ---- the hover

-- What is told: of which name, and the bytes of the lines.
pub record Told : Type 0 where
  pub name : Span
  pub bytes : List ℕ

abbrev pub told_of : Hover → Told
told_of hover = record { name = hover.name; bytes = hover.lines.items }

abbrev pub hover_over : List ℕ → Meaning → Told
hover_over text m = record { name = m.name; bytes = join_with_byte 10 (lines_of text m) }

-- The hover of the name that has the byte at an offset of a text, if it means something.
abbrev pub named_at : List ℕ → (offset : ℕ) → Option Told
named_at text offset = option_map (hover_over text) (meaning_of text offset)

-- The hover of the token that is at fault there: its note, on a line.
abbrev pub hover_by_note : FaultTold → Told
hover_by_note note = record { name = note.token; bytes = note.words }

abbrev pub noted_at : List ℕ → (offset : ℕ) → Option Told
noted_at text offset = option_map hover_by_note (fault_noted text offset)

-- What is said of the token that has the byte: its note, where it is at fault.
unfoldable pub hover_at : List ℕ → (offset : ℕ) → Option Told
hover_at text offset = option_or (noted_at text offset) (named_at text offset)

abbrev pub hover_before : List ℕ → (offset : ℕ) → Option Told
hover_before text offset = if offset == 0 then None else hover_at text (offset - 1)

-- The cursor's rule: a cursor right after a token is on that token, unless something is said of the
-- one at the cursor.
unfoldable pub hover_of : List ℕ → (offset : ℕ) → Option Told
hover_of text offset = option_or (hover_at text offset) (hover_before text offset)
