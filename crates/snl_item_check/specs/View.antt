-- What an item sees of the others, by the outlines of all and its number among them.
use Rattle.std.specs.Prelude.{ℕ, Bool, true, false, not, ◌&&◌, ◌||◌, List, Option, is_some, option_map}
use Rattle.snl_scope.specs.declared.facts.Assigned.{Assigned}
use Rattle.snl_scope.specs.declared.facts.Assigned.TheVariants as assigned
use Rattle.snl_scope.specs.declared.facts.NameKind.{NameKind}
use Rattle.snl_scope.specs.declared.facts.NameKind.TheVariants as name_kind
use Rattle.snl_scope.specs.declared.facts.Fact.{Fact}
use Rattle.snl_summary.specs.declared.summary.Outline.{Outline}
use Rattle.snl_scope.specs.Linked.{fact_of, has_target}
use Rattle.snl_scope.specs.Places.{enclosing_set}
use Rattle.snl_walk.specs.declared.other_items.Outer.{Outer}

-- It is in a state set.
unfoldable pub is_in_set : List Outline → ℕ → Bool
is_in_set ss item = is_some (enclosing_set ss item)

-- What is known of a name that a scope outside it declares.
unfoldable pub known_of : List Outline → ℕ → List ℕ → Option Fact
known_of ss item name = fact_of ss item name

-- Its state set has a state of the name.
unfoldable pub leads_to : List Outline → ℕ → List ℕ → Bool
leads_to ss item name = has_target ss item name

abbrev pub is_foreign : NameKind → Bool
is_foreign name_kind.Foreign = true
is_foreign _ = false

-- A foreign name may be anything.
abbrev pub may_be_flag : NameKind → Bool
may_be_flag name_kind.EventFlag = true
may_be_flag b = is_foreign b

abbrev pub is_assigned : Assigned → Bool
is_assigned assigned.Unassigned = false
is_assigned _ = true

-- What a name passes for of which this is known.
abbrev pub outer_of : Fact → Outer
outer_of fact = record { flag = may_be_flag fact.kind; channel = is_assigned fact.assigned || is_foreign fact.kind }

-- What names pass for of which `fact` says what is known.
abbrev pub outer_by : (List ℕ → Option Fact) → List ℕ → Option Outer
outer_by fact name = option_map outer_of (fact name)

-- An item that is in no state set misses no state.
abbrev pub misses_by : Bool → (List ℕ → Bool) → List ℕ → Bool
misses_by in_set target name = in_set && not (target name)
