-- The wake-up set of a state: the event flags and the channels on whose change it wakes up, by
-- their numbers.
use Rattle.std.specs.Prelude.{◌≡◌, ℕ, ◌+◌, ◌<◌, ◌||◌, nat_eq, Bool, true, false, List, [], length, filter}
use Rattle.std.specs.List.{list_any, range_with_len, slice_index_or}
use Rattle.snl_tables.specs.declared.rows.StateRow.{StateRow}
use Rattle.snl_tables.specs.declared.rows.Tables.{Tables}
use Rattle.snl_tables.specs.declared.rows.WakeUp.{WakeUp}
use Rattle.snl_tables.specs.declared.rows.WakeUp.TheVariants.{Flag, Channel, Variable}
use Rattle.snl_tables.specs.declared.wake_sets.WakeMarks.{WakeMarks}
use Rattle.snl_tables.specs.Marks.{is_marked, marked}

-- Whether it is among some numbers.
abbrev pub holds : List ℕ → ℕ → Bool
holds numbers n = list_any (nat_eq n) numbers

-- The channels of a variable.
abbrev pub channels_of : (variables : List (List ℕ)) → ℕ → List ℕ
channels_of variables variable = slice_index_or variables variable []

-- A use covers an event flag: it means this very flag.
abbrev pub covers_flag : ℕ → WakeUp → Bool
covers_flag n (Flag flag) = nat_eq n flag
covers_flag n (Channel channel) = false
covers_flag n (Variable variable) = false

-- A use covers a channel: it means this very channel, or the variable has it.
abbrev pub covers_channel : (variables : List (List ℕ)) → ℕ → WakeUp → Bool
covers_channel variables n (Flag flag) = false
covers_channel variables n (Channel channel) = nat_eq n channel
covers_channel variables n (Variable variable) = holds (channels_of variables variable) n

-- The event flags of a wake-up set: of the numbers from 1 on those that a use covers.
abbrev pub wake_flags : Tables → StateRow → List ℕ
wake_flags tables state = filter (λ n. list_any (covers_flag n) state.wake) (range_with_len 1 (length tables.flags))

-- Its channels: of the numbers from 0 on those that a use covers.
abbrev pub wake_channels : Tables → StateRow → List ℕ
wake_channels tables state = filter (λ n. list_any (covers_channel tables.variables n) state.wake) (range_with_len 0 (length tables.channels))

-- Numbers were put into a set, those below its limit.
pub record Inserts (old new : List Bool) (numbers : List ℕ) : Type 0 where
  pub limit : length new ≡ length old
  pub each : (n : ℕ) → n < length old → is_marked new n ≡ (is_marked old n || holds numbers n)

-- Of each variable in the one set the channels are in the other.
abbrev pub AreSeen : (variables : List (List ℕ)) (seen channels : List Bool) → Type 0
AreSeen variables seen channels = (variable n : ℕ) → is_marked seen variable ≡ true → n < length channels → holds (channels_of variables variable) n ≡ true → is_marked channels n ≡ true

-- Bits for the numbers of some tables.
pub record IsFor (tables : Tables) (marks : WakeMarks) : Type 0 where
  pub flags : length marks.flags ≡ length tables.flags + 1
  pub channels : length marks.channels ≡ length tables.channels
  pub unseen : marked marks.variables ≡ []

-- The marked numbers are what these uses cover; the number 0 is no event flag's.
pub record AreCovered (variables : List (List ℕ)) (uses : List WakeUp) (flags channels : List Bool) : Type 0 where
  pub no_flag : is_marked flags 0 ≡ false
  pub flag_marks : (n : ℕ) → 0 < n → n < length flags → is_marked flags n ≡ list_any (covers_flag n) uses
  pub channel_marks : (n : ℕ) → n < length channels → is_marked channels n ≡ list_any (covers_channel variables n) uses
