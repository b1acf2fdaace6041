-- The listing of a text: its tables, line by line.
use Rattle.std.specs.Prelude.{ℕ, ◌+◌, ◌==◌, ◌&&◌, if◌then◌else◌, Bool, length, List, [], ◌∷◌, ◌++◌, take, drop, Option, Some, None, codes, decimal}
use Rattle.std.specs.List.{concat, flat_map}
use Rattle.snl_tables.specs.declared.rows.ChannelRow.{ChannelRow}
use Rattle.snl_tables.specs.declared.rows.Destination.{Destination}
use Rattle.snl_tables.specs.declared.rows.Destination.TheVariants.{State, Exit}
use Rattle.snl_tables.specs.declared.rows.FlagRow.{FlagRow}
use Rattle.snl_tables.specs.declared.rows.NamedState.{NamedState}
use Rattle.snl_tables.specs.declared.rows.OptionRow.{OptionRow}
use Rattle.snl_tables.specs.declared.rows.Queue.{Queue}
use Rattle.snl_tables.specs.declared.rows.Queue.TheVariants.{Unqueued, Default, Length}
use Rattle.snl_tables.specs.declared.rows.ScopeName.{ScopeName}
use Rattle.snl_tables.specs.declared.rows.ScopeName.TheVariants as scope
use Rattle.snl_tables.specs.declared.rows.SetRow.{SetRow}
use Rattle.snl_tables.specs.declared.rows.Span.{Span}
use Rattle.snl_tables.specs.declared.rows.StateMark.{StateMark}
use Rattle.snl_tables.specs.declared.rows.StateMark.TheVariants.{Faulty, Repeated, Unknown, Reached, Unreached}
use Rattle.snl_tables.specs.declared.rows.StateRow.{StateRow}
use Rattle.snl_tables.specs.declared.rows.Synced.{Synced}
use Rattle.snl_tables.specs.declared.rows.Tables.{Tables}
use Rattle.snl_tables.specs.WakeSets.{wake_channels, wake_flags}
use Rattle.snl_listing.specs.Escapes.{escaped, escaped_byte}

-- ---- parts of lines

-- So many bytes of a text from a place on.
abbrev pub bytes_of : (text : List ℕ) (start len : ℕ) → List ℕ
bytes_of text start len = take len (drop start text)

abbrev pub name_of : (text : List ℕ) → Span → List ℕ
name_of text name = escaped (bytes_of text name.start name.len)

-- A name, or `-`.
abbrev pub name_or_none : (text : List ℕ) → Option Span → List ℕ
name_or_none text None = codes "-"
name_or_none text (Some name) = name_of text name

-- `program`, the state set, or `SET.STATE`.
abbrev pub scope_text : (text : List ℕ) → ScopeName → List ℕ
scope_text text scope.Program = codes "program"
scope_text text (scope.StateSet set) = name_of text set
scope_text text (scope.State set state) = concat (name_or_none text set ∷ codes "." ∷ name_of text state ∷ [])

-- ` in "FILE"`, where the line has a file.
abbrev pub file_text : (text : List ℕ) → Option (ℕ × ℕ) → List ℕ
file_text text None = []
file_text text (Some file) = concat (codes " in \"" ∷ escaped (bytes_of text file.0 file.1) ∷ codes "\"" ∷ [])

-- `[I]`, for an element.
abbrev pub element_text : Option ℕ → List ℕ
element_text None = []
element_text (Some element) = concat (codes "[" ∷ decimal element ∷ codes "]" ∷ [])

abbrev pub monitor_text : (is_monitored : Bool) → List ℕ
monitor_text is_monitored = if is_monitored then codes " monitor" else []

-- The number of an event flag, or `-`.
abbrev pub flag_text : Option ℕ → List ℕ
flag_text None = codes "-"
flag_text (Some flag) = decimal flag

-- ` sync F` or ` syncq F Q`, by what stands for the event flag.
abbrev pub queue_text : (flag : List ℕ) → Queue → List ℕ
queue_text flag Unqueued = concat (codes " sync " ∷ flag ∷ [])
queue_text flag Default = concat (codes " syncq " ∷ flag ∷ codes " default" ∷ [])
queue_text flag (Length slots) = concat (codes " syncq " ∷ flag ∷ codes " " ∷ decimal slots ∷ [])

abbrev pub sync_text : Option Synced → List ℕ
sync_text None = []
sync_text (Some sync) = queue_text (flag_text sync.flag) sync.queue

abbrev pub mark_text : StateMark → List ℕ
mark_text Faulty = codes "faulty"
mark_text Repeated = codes "repeated"
mark_text Unknown = codes "unknown"
mark_text Reached = codes "reached"
mark_text Unreached = codes "unreached"

-- ` ?` is after a target that is no state of its set.
abbrev pub target_text : (text : List ℕ) → NamedState → List ℕ
target_text text target = name_of text target.name ++ (if target.is_known then [] else codes " ?")

abbrev pub destination_text : (text : List ℕ) → Destination → List ℕ
destination_text text (State target) = target_text text target
destination_text text Exit = codes "exit"

-- ---- lines

-- The lines of rows, numbered from a number on.
abbrev pub numbered : {A : Type 0} → (ℕ → A → List ℕ) → ℕ → List A → List ℕ
numbered line n [] = []
numbered line n (row ∷ rows) = line n row ++ numbered line (n + 1) rows

abbrev pub program_line : (text : List ℕ) → Option Span → List ℕ
program_line text program = concat (codes "program " ∷ name_or_none text program ∷ codes "\n" ∷ [])

-- `option +L` or `option -L`; that of a state is indented.
abbrev pub option_line : (indent : List ℕ) → OptionRow → List ℕ
option_line indent row = concat (indent ∷ (if row.is_set then codes "option +" else codes "option -") ∷ escaped_byte row.letter ∷ codes "\n" ∷ [])

-- `flag N NAME SCOPE`
abbrev pub flag_line : (text : List ℕ) → ℕ → FlagRow → List ℕ
flag_line text n row = concat (codes "flag " ∷ decimal n ∷ codes " " ∷ name_of text row.name ∷ codes " " ∷ scope_text text row.scope ∷ codes "\n" ∷ [])

-- `channel N VAR[I] SCOPE "PV"`, and whether it is monitored and synced.
abbrev pub channel_line : (text : List ℕ) → ℕ → ChannelRow → List ℕ
channel_line text n row = concat (codes "channel " ∷ decimal n ∷ codes " " ∷ name_of text row.variable ∷ element_text row.element ∷ codes " " ∷ scope_text text row.scope
    ∷ codes " \"" ∷ escaped row.pv ∷ codes "\"" ∷ monitor_text row.is_monitored ∷ sync_text row.sync ∷ codes "\n" ∷ [])

-- `ss NAME line L`
abbrev pub set_line : (text : List ℕ) → SetRow → List ℕ
set_line text set = concat (codes "ss " ∷ name_of text set.name ∷ codes " line " ∷ decimal set.line.number ∷ file_text text set.line.file ∷ codes "\n" ∷ [])

-- `state NAME line L MARK`
abbrev pub state_line : (text : List ℕ) → StateRow → List ℕ
state_line text state = concat (codes "state " ∷ name_of text state.name ∷ codes " line " ∷ decimal state.line.number ∷ file_text text state.line.file ∷ codes " " ∷ mark_text state.mark ∷ codes "\n" ∷ [])

-- `when K NAME` or `when K exit`
abbrev pub when_line : (text : List ℕ) → ℕ → Destination → List ℕ
when_line text k destination = concat (codes "  when " ∷ decimal k ∷ codes " " ∷ destination_text text destination ∷ codes "\n" ∷ [])

-- `goto NAME`
abbrev pub goto_line : (text : List ℕ) → NamedState → List ℕ
goto_line text target = concat (codes "  goto " ∷ target_text text target ∷ codes "\n" ∷ [])

-- ` -` is in the place of numbers, where there are none.
abbrev pub none_text : (flags channels : List ℕ) → List ℕ
none_text flags channels = if length flags == 0 && length channels == 0 then codes " -" else []

-- ` fN` for each event flag and ` cN` for each channel of a wake-up set.
abbrev pub wake_line : (flags channels : List ℕ) → List ℕ
wake_line flags channels = concat (codes "  wake" ∷ flat_map (λ n. codes " f" ++ decimal n) flags ∷ flat_map (λ n. codes " c" ++ decimal n) channels ∷ none_text flags channels ∷ codes "\n" ∷ [])

-- ---- the listing

-- What is known of a state that isn't faulty.
abbrev pub state_lines : (text : List ℕ) → Tables → StateRow → List ℕ
state_lines text tables state = concat (flat_map (option_line (codes "  ")) state.options ∷ numbered (when_line text) 0 state.transitions ∷ flat_map (goto_line text) state.gotos ∷ wake_line (wake_flags tables state) (wake_channels tables state) ∷ [])

abbrev pub unless_faulty : StateMark → List ℕ → List ℕ
unless_faulty Faulty lines = []
unless_faulty Repeated lines = lines
unless_faulty Unknown lines = lines
unless_faulty Reached lines = lines
unless_faulty Unreached lines = lines

-- A state.
abbrev pub state_text : (text : List ℕ) → Tables → StateRow → List ℕ
state_text text tables state = state_line text state ++ unless_faulty state.mark (state_lines text tables state)

-- A state set, and its states.
abbrev pub set_text : (text : List ℕ) → Tables → SetRow → List ℕ
set_text text tables set = set_line text set ++ flat_map (state_text text tables) set.states

-- The listing of the tables of a text.
unfoldable pub listing_of : (text : List ℕ) → Tables → List ℕ
listing_of text tables = concat (program_line text tables.program ∷ flat_map (option_line []) tables.options ∷ numbered (flag_line text) 1 tables.flags ∷ numbered (channel_line text) 0 tables.channels ∷ flat_map (set_text text tables) tables.sets ∷ [])
