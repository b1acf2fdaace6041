-- The states of a state set that are reached. A state is its number in the set, and
-- `targets` has the targets of each.
use Rattle.std.specs.Prelude.{◌≡◌, ◌⊎◌, ◌+◌, ◌-◌, ◌<◌, ℕ, zero, suc, Bool, true, not, ◌&&◌, ◌||◌, nat_eq, List, [], map, length, slice_get, slice_index_or, All, Contains, Some, Vec, count_by}
use Rattle.std.specs.List.{AllAdjacentBelow, list_any}
use Rattle.std.specs.declared.alloc.Global.{Global}
use Rattle.snl_scope.specs.Below.{any_below}
use Rattle.snl_check.specs.declared.reachability.reaching.Search.{Search}

-- The targets of each state, as lists.
abbrev pub target_lists : List (Vec ℕ Global) → List (List ℕ)
target_lists rows = map (λ row. row.items) rows

-- Each target is a state of the set.
abbrev pub AreStates : List (List ℕ) → Type 0
AreStates targets = All (All (λ t. t < length targets)) targets

-- State `t` is a target of state `s`.
abbrev pub IsTarget : List (List ℕ) → ℕ → ℕ → Type 0
IsTarget targets s t = Contains (slice_index_or targets s []) t

-- A list of states, in which each next one is a target of the one before.
pub record IsWalk (targets : List (List ℕ)) (first last : ℕ) (walk : List ℕ) : Type 0 where
  pub begins : slice_get walk 0 ≡ Some first
  pub ends : slice_get walk (length walk - 1) ≡ Some last
  pub states : All (λ s. s < length targets) walk
  pub steps : AllAdjacentBelow (IsTarget targets) walk (length walk)

-- A walk leads to the state from the initial one, which is the first of the set.
abbrev pub IsReached : List (List ℕ) → ℕ → Type 0
IsReached targets s = (walk : List ℕ) × IsWalk targets 0 s walk

-- Whether state `t` is a target of state `s`.
abbrev pub leads_on : List (List ℕ) → ℕ → ℕ → Bool
leads_on targets s t = list_any (nat_eq t) (slice_index_or targets s [])

-- Whether a walk of at most so many steps leads to the state from the initial one.
abbrev pub is_reached_within : List (List ℕ) → ℕ → ℕ → Bool
is_reached_within targets zero t = nat_eq t 0
is_reached_within targets (suc steps) t =
    is_reached_within targets steps t || any_below (λ s. is_reached_within targets steps s && leads_on targets s t) (length targets)

-- Whether a walk leads to the state from the initial one. The shortest walk comes to no state
-- twice, so it has fewer steps than there are states.
unfoldable pub is_reached : List (List ℕ) → ℕ → Bool
is_reached targets s = is_reached_within targets (length targets) s

-- A search has come to the state.
abbrev pub HasReached : Search → ℕ → Type 0
HasReached search s = slice_get search.reached.items s ≡ Some true

-- How many states a search may still take: those that it has not come to, and those that wait.
abbrev pub left_to : Search → ℕ
left_to search = count_by not search.reached.items + length search.waiting.items

-- The search comes to these states: those that are new to it wait.
pub record Enters (old new : Search) (states : List ℕ) : Type 0 where
  pub as_long : length new.reached.items ≡ length old.reached.items
  pub entered : All (HasReached new) states
  pub kept : (s : ℕ) → HasReached old s → HasReached new s
  pub fresh : (s : ℕ) → HasReached new s → HasReached old s ⊎ (Contains states s × Contains new.waiting.items s)
  pub waits : (s : ℕ) → Contains old.waiting.items s → Contains new.waiting.items s
  pub called : (s : ℕ) → Contains new.waiting.items s → Contains old.waiting.items s ⊎ Contains states s
  pub work : left_to new ≡ left_to old
