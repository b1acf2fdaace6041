-- Items that say nothing that rows before them are made from, those of channels and of state sets.
-- Items of state sets mostly are so.
use Rattle.std.specs.Prelude.{◌≡◌, ℕ, ◌-◌, Bool, true, false, ◌&&◌, ◌||◌, not, if◌then◌else◌, List, [], ◌∷◌, length, take, drop, slice_get, Option, Some, None, is_some, option_and_then}
use Rattle.std.specs.List.{AllByRecursion, list_any}
use Rattle.snl_lex.specs.Lines.{line_at}
use Rattle.snl_summary.specs.declared.summary.Declared.{Declared}
use Rattle.snl_summary.specs.declared.summary.Outline.{Outline}
use Rattle.snl_scope.specs.Below.{all_below}
use Rattle.snl_scope.specs.Clauses.{is_event_flag}
use Rattle.snl_scope.specs.Names.{has_own_scope}
use Rattle.snl_scope.specs.Places.{begins_set, ends_set, is_set_begin}
use Rattle.snl_walk.specs.Tokens.{token_bytes}
use Rattle.snl_check.specs.ItemSpans.{span_of}
use Rattle.snl_item_check.specs.Items.{ProgramItem, outlines_of}

abbrev pub is_nothing : {A : Type 0} → List A → Bool
is_nothing [] = true
is_nothing (x ∷ xs) = false

abbrev pub is_flag_declared : Declared → Bool
is_flag_declared d = is_event_flag d.variable.symbol_kind

-- An item declares nothing that the items before it can name: nothing at all, or in a scope of its
-- own, or in that of a state set that begins after them.
abbrev pub is_hidden : Bool → Outline → Bool
is_hidden in_later_set s = is_nothing s.declares || has_own_scope s.role || (in_later_set && not (begins_set s.role))

-- It has no clause, declares no event flag, and nothing that the items before it can name.
abbrev pub is_quiet : Bool → Outline → Bool
is_quiet in_later_set s = is_nothing s.clauses && not (list_any is_flag_declared s.declares) && is_hidden in_later_set s

-- Whether the item after an item is in a state set that begins there or before.
abbrev pub is_later_after : Bool → Outline → Bool
is_later_after in_later_set s = if begins_set s.role then true else (in_later_set && not (ends_set s.role))

-- What a quiet item leaves for the next one: whether that is in such a state set.
abbrev pub after_quiet : Bool → Outline → Option Bool
after_quiet in_later_set s = if is_quiet in_later_set s then Some (is_later_after in_later_set s) else None

-- The same of items one after another, if all of them are quiet.
abbrev pub quiet_along : Bool → List Outline → Option Bool
quiet_along in_later_set [] = Some in_later_set
quiet_along in_later_set (s ∷ ss) = option_and_then (λ next. quiet_along next ss) (after_quiet in_later_set s)

-- All of these items are quiet to those before them. The first is in no state set that begins after
-- those.
abbrev pub are_quiet : List Outline → Bool
are_quiet ss = is_some (quiet_along false ss)

-- How many state sets begin among so many first items, but for the last one: what is after these
-- items may be in that.
abbrev pub sets_before : List Outline → ℕ → ℕ
sets_before ss n = length (all_below (is_set_begin ss) n) - 1

-- The first token of an item is on the same line in both texts.
abbrev pub HasSameLine : (old text : List ℕ) → ProgramItem → Type 0
HasSameLine old text x = line_at text (span_of (slice_get x.tokens 0)).start ≡ line_at old (span_of (slice_get x.tokens 0)).start

-- Two texts have so many first items in common, at the same places and of the same bytes, and those
-- after them are quiet to these.
pub record IsQuietAfter (old text : List ℕ) (xs ys : List ProgramItem) (n : ℕ) : Type 0 where
  pub front : take n ys ≡ take n xs
  pub bytes : AllByRecursion (λ x. (m : ℕ) → token_bytes text x.tokens m ≡ token_bytes old x.tokens m) (take n xs)
  pub quiet_before : are_quiet (outlines_of old (drop n xs)) ≡ true
  pub quiet_now : are_quiet (outlines_of text (drop n ys)) ≡ true
