-- Where the items of a text are. An item is told by its number among the outlines of all.
use Rattle.std.specs.Prelude.{ℕ, Bool, true, false, not, ◌&&◌, if◌then◌else◌, List, slice_get, nat_eq, nat_lt, Option, None}
use Rattle.std.specs.Option.{option_map_or}
use Rattle.snl_summary.specs.declared.summary.Outline.{Outline}
use Rattle.snl_summary.specs.declared.summary.Role.{Role}
use Rattle.snl_summary.specs.declared.summary.Role.TheVariants as role
use Rattle.snl_scope.specs.Below.{any_below, last_below}

-- There is an item i, and it passes the test.
abbrev pub item_is : (Outline → Bool) → List Outline → ℕ → Bool
item_is test ss i = option_map_or test (slice_get ss i) false

-- The item is `ss NAME {`, or `}`. A faulty item is neither, so it opens and closes nothing.
abbrev pub begins_set : Role → Bool
begins_set role.SetBegin = true
begins_set _ = false

abbrev pub ends_set : Role → Bool
ends_set role.SetEnd = true
ends_set _ = false

abbrev pub is_set_begin : List Outline → ℕ → Bool
is_set_begin ss i = item_is (λ s. begins_set s.role) ss i

abbrev pub is_set_end : List Outline → ℕ → Bool
is_set_end ss i = item_is (λ s. ends_set s.role) ss i

-- A `}` item is between items k and i.
abbrev pub ends_between : List Outline → ℕ → ℕ → Bool
ends_between ss k i = any_below (λ j. nat_lt k j && is_set_end ss j) i

-- The last `ss NAME {` item before item i with no `}` item between.
abbrev pub open_before : List Outline → ℕ → Option ℕ
open_before ss i = last_below (λ k. is_set_begin ss k && not (ends_between ss k i)) i

-- The state set that an item is in, by the number of its `ss NAME {` item; None is program level,
-- where each
-- `ss NAME {` item itself is.
abbrev pub enclosing_set : List Outline → ℕ → Option ℕ
enclosing_set ss i = if item_is (λ s. not (begins_set s.role)) ss i then open_before ss i else None

-- Item i is in the state set that item k begins.
abbrev pub stands_in : List Outline → ℕ → ℕ → Bool
stands_in ss k i = option_map_or (nat_eq k) (enclosing_set ss i) false
