-- What is in a state set: its states, what the targets of each mean, and whether an item is faulty.
-- An item is its number among the outlines of all, and a state has a number among the states of its
-- set too.
use Rattle.std.specs.Prelude.{◌≡◌, ℕ, Bool, false, ◌&&◌, List, [], length, map, slice_get, nat_eq, position, is_none, is_some, Option, option_and_then, option_copied}
use Rattle.std.specs.List.{AllByRecursion, filter_map}
use Rattle.std.specs.Option.{option_map_or}
use Rattle.snl_summary.specs.declared.summary.NameRef.{NameRef}
use Rattle.snl_summary.specs.declared.summary.Outline.{Outline}
use Rattle.snl_scope.specs.Below.{all_below, any_below}
use Rattle.snl_scope.specs.Linked.{name_of_state, state_of}
use Rattle.snl_scope.specs.Order.{is_named_state}
use Rattle.snl_scope.specs.Places.{stands_in}
use Rattle.snl_check.specs.declared.reachability.marks.SetMember.{SetMember}
use Rattle.snl_item_check.specs.Items.{ProgramItem, summary_of_item}

-- The states of the state set that item k begins, faulty or not.
abbrev pub states_in : List Outline → ℕ → List ℕ
states_in ss k = all_below (λ j. is_named_state ss j && stands_in ss k j) (length ss)

-- An item is faulty: it has no tree.
abbrev pub is_faulty_item : List ProgramItem → ℕ → Bool
is_faulty_item xs j = option_map_or (λ x. is_none x.tree) (slice_get xs j) false

-- One of the items of the state set is faulty.
abbrev pub has_faulty : List ProgramItem → List Outline → ℕ → Bool
has_faulty xs ss k = any_below (λ j. is_faulty_item xs j && stands_in ss k j) (length ss)

-- The number of an item among the states of a set.
abbrev pub number_among : List ℕ → Option ℕ → Option ℕ
number_among states item = option_and_then (λ j. position (nat_eq j) states) item

-- A target of state j means the first state of its name.
abbrev pub target_number : List Outline → List ℕ → ℕ → NameRef → Option ℕ
target_number ss states j target = number_among states (state_of ss j target.name)

abbrev pub target_numbers : List ℕ → List ProgramItem → List Outline → List ℕ → ℕ → List ℕ
target_numbers text xs ss states j = option_map_or (λ x. filter_map (target_number ss states j) (summary_of_item text x).targets) (slice_get xs j) []

-- The targets of each state.
abbrev pub targets_among : List ℕ → List ProgramItem → List Outline → List ℕ → List (List ℕ)
targets_among text xs ss states = map (target_numbers text xs ss states) states

-- The targets of an item, as its summary has them.
abbrev pub targets_of_item : List ℕ → List ProgramItem → ℕ → List NameRef
targets_of_item text xs j = option_map_or (λ x. (summary_of_item text x).targets) (slice_get xs j) []

-- What is kept of an item is what the item says.
pub record IsSetMember (text : List ℕ) (xs : List ProgramItem) (ss : List Outline) (m : SetMember) : Type 0 where
  pub faulty : m.is_faulty ≡ is_faulty_item xs m.item
  pub name : option_copied m.name ≡ name_of_state ss m.item
  pub targets : m.targets.now ≡ targets_of_item text xs m.item

-- These are the items of the set that item k begins, in their order.
pub record AreSetMembers (text : List ℕ) (xs : List ProgramItem) (ss : List Outline) (k : ℕ) (members : List SetMember) : Type 0 where
  pub items : map (λ m. m.item) members ≡ all_below (stands_in ss k) (length ss)
  pub each : AllByRecursion (IsSetMember text xs ss) members

-- The same by what is kept: whether an item of it is a state with a name, what its targets mean, and
-- what is known of it.
abbrev pub has_name : SetMember → Bool
has_name m = is_some m.name

abbrev pub numbers_by_member : List Outline → List ℕ → SetMember → List ℕ
numbers_by_member ss states m = filter_map (target_number ss states m.item) m.targets.now

abbrev pub is_first_by_member : List Outline → SetMember → Bool
is_first_by_member ss m = option_map_or (λ name. option_map_or (nat_eq m.item) (state_of ss m.item name) false) (option_copied m.name) false
