-- The items of a text after an edit inside one of them; and where the row of a state is in the
-- tables.
use Rattle.std.specs.Prelude.{◌≡◌, ℕ, ◌&&◌, Bool, true, false, is_none, List, map, length, slice_get, Some}
use Rattle.snl_lex.specs.declared.shift.Shift.{Shift}
use Rattle.snl_summary.specs.declared.summary.Declared.{Declared}
use Rattle.snl_summary.specs.declared.summary.ItemKind.{ItemKind}
use Rattle.snl_summary.specs.declared.summary.ItemKind.TheVariants as kinds
use Rattle.snl_summary.specs.declared.summary.Outline.{Outline}
use Rattle.snl_scope.specs.Below.{all_below}
use Rattle.snl_scope.specs.Clauses.{is_event_flag}
use Rattle.snl_scope.specs.Order.{is_named_state}
use Rattle.snl_scope.specs.Places.{is_set_begin, stands_in}
use Rattle.snl_tables.specs.Shifted.{shifted_span}
use Rattle.snl_item_check.specs.Items.{ProgramItem, summary_of_item}
use Rattle.snl_check.specs.ItemSpans.{span_of}
use Rattle.snl_item_check.specs.Told.{wakes_of}

-- How many state sets begin before item k, and how many of the states of the set that item k begins
-- are before item j.
abbrev pub set_number : List Outline → ℕ → ℕ
set_number ss k = length (all_below (is_set_begin ss) k)

abbrev pub state_number : List Outline → ℕ → ℕ → ℕ
state_number ss k j = length (all_below (λ i. is_named_state ss i && stands_in ss k i) j)

-- What is inside an item of this kind is in no row, but in that of a state.
abbrev pub is_plain : ItemKind → Bool
is_plain kinds.Header = false
is_plain kinds.SsBegin = false
is_plain kinds.Clause = false
is_plain kinds.OptionLine = false
is_plain _ = true

-- A token of an item is where it was, shifted.
abbrev pub IsPlacedAt : Shift → (x y : ProgramItem) → ℕ → Type 0
IsPlacedAt s x y n = span_of (slice_get y.tokens n) ≡ shifted_span s (span_of (slice_get x.tokens n))

-- The name of what an item declares is where it was, shifted, if that is an event flag, and so is
-- the item's own name, if it has a scope of its own.
abbrev pub IsFlagPlaced : Shift → (x y : ProgramItem) → (own_scope : Bool) → Declared → Type 0
IsFlagPlaced s x y own_scope d = is_event_flag d.variable.symbol_kind ≡ true → IsPlacedAt s x y d.token × (own_scope ≡ true → IsPlacedAt s x y 1)

-- Item j is sound where it was.
abbrev pub IsSoundAsItWas : (xs ys : List ProgramItem) → ℕ → Type 0
IsSoundAsItWas xs ys j = (x y : ProgramItem) → slice_get xs j ≡ Some x → slice_get ys j ≡ Some y → is_none y.tree ≡ is_none x.tree

-- The new state leads where the old one led, its conditions say the same, and it is sound where
-- that one was: so all states of the set have the marks that they had, and its row has the wake-up
-- set that it had.
pub record SaysAlike (old text : List ℕ) (x y : ProgramItem) : Type 0 where
  pub sound : is_none y.tree ≡ is_none x.tree
  pub targets : map (λ m. m.name) (summary_of_item text y).targets ≡ map (λ m. m.name) (summary_of_item old x).targets
  pub wakes : wakes_of text y ≡ wakes_of old x

abbrev pub SaysAlikeAt : (old text : List ℕ) (xs ys : List ProgramItem) → ℕ → Type 0
SaysAlikeAt old text xs ys j = (x y : ProgramItem) → slice_get xs j ≡ Some x → slice_get ys j ≡ Some y → SaysAlike old text x y
