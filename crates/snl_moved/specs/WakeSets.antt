-- The wake-up set of a state, in the words of the language and in those of the rows: an event flag
-- or a channel is in it where a use of a name in the state's conditions means it.
use Rattle.std.specs.Prelude.{◌≡◌, ℕ, Bool, false, ◌&&◌, if◌then◌else◌, List, nat_eq, Option, None, Some}
use Rattle.std.specs.List.{list_any}
use Rattle.std.specs.Option.{is_none, option_map_or}
use Rattle.snl_summary.specs.declared.summary.Outline.{Outline}
use Rattle.snl_scope.specs.Clauses.{resolve_in}
use Rattle.snl_scope.specs.Flags.{flag_number}
use Rattle.snl_walk.specs.Tokens.{token_bytes}
use Rattle.snl_tables.specs.declared.rows.WakeUp.{WakeUp}
pub use Rattle.snl_tables.specs.WakeSets.{covers_channel, covers_flag}
use Rattle.snl_walk.specs.declared.used.WakeUse.{WakeUse}
use Rattle.snl_check.specs.Channels.{AssignedChannel, assigned_channels, covers_elements, element_number, is_channel_of}
use Rattle.snl_check.specs.Conditions.{uses_in, wake_ups}
use Rattle.snl_item_check.specs.Items.{ProgramItem, outlines_of, tokens_in}
use Rattle.snl_check.specs.Tables.{variables_of}

-- The number is the given one, if there is one.
abbrev pub is_number : ℕ → Option ℕ → Bool
is_number n given = option_map_or (nat_eq n) given false

-- The declaration that a use of a name in an item resolves to.
abbrev pub declaration_of : List ℕ → List ProgramItem → List Outline → ℕ → WakeUse → Option ℕ
declaration_of text xs ss item u = resolve_in ss item (token_bytes text (tokens_in xs item) u.token)

-- A use means an event flag: its name resolves to the flag with this number.
abbrev pub means_flag : List ℕ → List ProgramItem → List Outline → ℕ → ℕ → WakeUse → Bool
means_flag text xs ss item n u = option_map_or (λ v. is_number n (flag_number ss v)) (declaration_of text xs ss item u) false

-- Of a variable with a subscript the channel of that element is meant, where its `assign`s cover
-- elements; else each channel of the variable.
abbrev pub channel_meant : List AssignedChannel → Option ℕ → ℕ → ℕ → Bool
channel_meant cs None v n = is_channel_of cs v n
channel_meant cs (Some e) v n = if covers_elements cs v then is_number n (element_number cs v (Some e)) else is_channel_of cs v n

-- A use means a channel: its name resolves to a declaration that is no event flag, and the channel
-- is meant of that.
abbrev pub means_channel : List ℕ → List ProgramItem → List Outline → ℕ → ℕ → WakeUse → Bool
means_channel text xs ss item n u =
    option_map_or (λ v. is_none (flag_number ss v) && channel_meant (assigned_channels text xs ss) u.subscript v n) (declaration_of text xs ss item u) false

-- The entries of the row of an item.
abbrev pub entries_of_item : List ℕ → List ProgramItem → List Outline → ℕ → List WakeUp
entries_of_item text xs ss item = wake_ups text xs ss (assigned_channels text xs ss) item (uses_in text xs item)

-- The event flag with a number is in the wake-up set that the row has exactly where a use means it.
abbrev pub HasFlags : List ℕ → List ProgramItem → ℕ → Type 0
HasFlags text xs item =
    (n : ℕ) → list_any (covers_flag n) (entries_of_item text xs (outlines_of text xs) item) ≡ list_any (means_flag text xs (outlines_of text xs) item n) (uses_in text xs item)

-- And so for channels.
abbrev pub HasChannels : List ℕ → List ProgramItem → ℕ → Type 0
HasChannels text xs item =
    (n : ℕ) → list_any (covers_channel (variables_of text xs (outlines_of text xs)) n) (entries_of_item text xs (outlines_of text xs) item)
    ≡ list_any (means_channel text xs (outlines_of text xs) item n) (uses_in text xs item)
