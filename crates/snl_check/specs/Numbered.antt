-- The table of channels by variable and element that the code keeps, how it is made of the rows of
-- tables, and what uses mean by it.
use Rattle.std.specs.Prelude.{◌≡◌, ℕ, ◌<◌, ◌≤◌, Bool, true, false, ◌&&◌, if◌then◌else◌, List, [], ◌∷◌, length, get_or, nat_eq, slice_get, Option, None, Some, is_some, option_and_then, option_map}
use Rattle.std.specs.Map.{lookup}
use Rattle.std.specs.Option.{option_or}
use Rattle.snl_lex.specs.declared.piece.Piece.{Piece}
use Rattle.snl_summary.specs.declared.summary.Outline.{Outline}
use Rattle.snl_scope.specs.Clauses.{resolve_in}
use Rattle.snl_scope.specs.Flags.{flag_number}
use Rattle.snl_walk.specs.declared.used.WakeUse.{WakeUse}
use Rattle.snl_walk.specs.Tokens.{token_bytes}
use Rattle.snl_tables.specs.declared.rows.ChannelRow.{ChannelRow}
use Rattle.snl_tables.specs.declared.rows.Tables.{Tables}
use Rattle.snl_tables.specs.declared.rows.WakeUp.{WakeUp}
use Rattle.snl_tables.specs.declared.rows.WakeUp.TheVariants as wake
use Rattle.snl_check.specs.declared.rows.channel_numbers.ElementKey.{ElementKey}
use Rattle.snl_check.specs.declared.rows.channel_numbers.Which.{Which}
use Rattle.snl_check.specs.declared.rows.channel_numbers.Which.TheVariants as which
use Rattle.snl_check.specs.Channels.{AssignedChannel, element_number, is_element, is_element_of}
use Rattle.snl_check.specs.Conditions.{by_flag}

abbrev pub same_which : Which → Which → Bool
same_which which.Any which.Any = true
same_which (which.Element a) (which.Element b) = nat_eq a b
same_which _ _ = false

abbrev pub same_key : ElementKey → ElementKey → Bool
same_key a b = nat_eq a.variable b.variable && same_which a.which b.which

-- The element that is meant, if it is a certain one.
abbrev pub element_in : Which → Option ℕ
element_in which.Any = None
element_in (which.Element e) = Some e

-- The key is one of the channel.
abbrev pub is_key_of : AssignedChannel → ElementKey → Bool
is_key_of c k = is_element_of k.variable (element_in k.which) c

-- The table has, for each key, the number of the first of these channels that has it.
pub record Numbered (held : List (ElementKey × ℕ)) (cs : List AssignedChannel) : Type 0 where
  pub each : (k : ElementKey) → lookup (same_key k) held ≡ element_number cs k.variable (element_in k.which)

-- The channel with a number has the keys that pass the test; an earlier one that had a key stays
-- the first.
pub record Adds (before after : List (ElementKey × ℕ)) (has : ElementKey → Bool) (number : ℕ) : Type 0 where
  pub each : (k : ElementKey) → lookup (same_key k) after ≡ option_or (lookup (same_key k) before) (if has k then Some number else None)

-- The key is one of a channel of the variable, by the channel's element.
abbrev pub has_key : ℕ → Option ℕ → ElementKey → Bool
has_key variable element k = nat_eq variable k.variable && is_element (element_in k.which) element

-- ---- the table, made of the rows of tables

-- The first of some numbers that passes a test.
abbrev pub first_of : (ℕ → Bool) → List ℕ → Option ℕ
first_of test [] = None
first_of test (n ∷ ns) = if test n then Some n else first_of test ns

-- The element of the channel with a number.
abbrev pub element_at : List ChannelRow → ℕ → Option ℕ
element_at rows number = option_and_then (λ row. row.element) (slice_get rows number)

-- The channels with these numbers, all of one variable, are added.
pub record AddsAll (before after : List (ElementKey × ℕ)) (variable : ℕ) (rows : List ChannelRow) (numbers : List ℕ) : Type 0 where
  pub each : (k : ElementKey) → lookup (same_key k) after ≡ option_or (lookup (same_key k) before) (first_of (λ n. has_key variable (element_at rows n) k) numbers)

-- The first of some channels that has the element that is meant.
abbrev pub first_meant : List ChannelRow → Which → List ℕ → Option ℕ
first_meant rows w numbers = first_of (λ n. is_element (element_in w) (element_at rows n)) numbers

-- The table has the channels of the first n variables.
pub record HoldsBelow (held : List (ElementKey × ℕ)) (rows : List ChannelRow) (lists : List (List ℕ)) (n : ℕ) : Type 0 where
  pub below : (k : ElementKey) → k.variable < n → lookup (same_key k) held ≡ first_meant rows k.which (get_or lists k.variable [])
  pub past : (k : ElementKey) → n ≤ k.variable → lookup (same_key k) held ≡ None

-- The table has the channels of the rows.
abbrev pub HoldsRows : List (ElementKey × ℕ) → Tables → Type 0
HoldsRows held t = HoldsBelow held t.channels t.variables (length t.variables)

-- ---- what uses mean by the table

abbrev pub any_of : ℕ → ElementKey
any_of variable = record { variable = variable; which = which.Any }

abbrev pub one_of : ℕ → ℕ → ElementKey
one_of variable element = record { variable = variable; which = which.Element element }

abbrev pub variable_by : List (ElementKey × ℕ) → Option ℕ → ℕ → Option WakeUp
variable_by held None variable = Some (wake.Variable variable)
variable_by held (Some e) variable =
    if is_some (lookup (same_key (any_of variable)) held) then option_map wake.Channel (lookup (same_key (one_of variable e)) held) else Some (wake.Variable variable)

abbrev pub meant_by : List Outline → List (ElementKey × ℕ) → Option ℕ → ℕ → Option WakeUp
meant_by ss held subscript number = by_flag (flag_number ss number) (variable_by held subscript number)

abbrev pub wake_by : List ℕ → List Piece → List Outline → List (ElementKey × ℕ) → ℕ → WakeUse → Option WakeUp
wake_by text tokens ss held item used = option_and_then (meant_by ss held used.subscript) (resolve_in ss item (token_bytes text tokens used.token))

abbrev pub has_subscript : WakeUse → Bool
has_subscript used = is_some used.subscript
