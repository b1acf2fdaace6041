-- The order of items: their phases, and what is found where they are out of place.
use Rattle.std.specs.Prelude.{ℕ, Bool, true, false, not, ◌&&◌, ◌||◌, if◌then◌else◌, List, [], ◌∷◌, ◌++◌, map, length, slice_get, nat_lt, Option, None, Some, is_some, is_none, option_and_then}
use Rattle.snl_codes.specs.declared.code.Code.{Code}
use Rattle.snl_codes.specs.declared.code.Code.TheVariants.{E03, E04, E05, E06}
use Rattle.snl_scope.specs.declared.facts.LinkFault.{LinkFault}
use Rattle.snl_summary.specs.declared.summary.ItemKind.{ItemKind}
use Rattle.snl_summary.specs.declared.summary.ItemKind.TheVariants as kind
use Rattle.snl_summary.specs.declared.summary.Opening.{Opening}
use Rattle.snl_summary.specs.declared.summary.Opening.TheVariants as opening
use Rattle.snl_summary.specs.declared.summary.Outline.{Outline}
use Rattle.snl_scope.specs.Below.{any_below, all_below}
use Rattle.snl_scope.specs.LinkedItems.{LinkedItems, kind_is}
use Rattle.snl_scope.specs.Places.{item_is, is_set_begin, is_set_end, enclosing_set, stands_in}

-- The item begins with the word, faulty or not.
abbrev pub is_program_word : Opening → Bool
is_program_word opening.Program = true
is_program_word _ = false

abbrev pub is_ss_word : Opening → Bool
is_ss_word opening.Ss = true
is_ss_word _ = false

abbrev pub is_state_word : Opening → Bool
is_state_word opening.State = true
is_state_word _ = false

abbrev pub is_program_item : List Outline → ℕ → Bool
is_program_item ss i = item_is (λ s. is_program_word s.opening) ss i

abbrev pub is_ss_item : List Outline → ℕ → Bool
is_ss_item ss i = item_is (λ s. is_ss_word s.opening) ss i

-- The name of the state that an item is: it begins with `state NAME`, and it may be faulty.
abbrev pub state_name : Outline → Option (List ℕ)
state_name s = if is_state_word s.opening then s.second else None

abbrev pub is_named_state : List Outline → ℕ → Bool
is_named_state ss i = item_is (λ s. is_some (state_name s)) ss i

abbrev pub is_faulty : ItemKind → Bool
is_faulty kind.Faulty = true
is_faulty _ = false

abbrev pub is_state : ItemKind → Bool
is_state kind.State = true
is_state _ = false

-- Entries, state sets and exits: the items of phases 2, 3 and 4.
abbrev pub is_main : ItemKind → Bool
is_main kind.Entry = true
is_main kind.SsBegin = true
is_main kind.Exit = true
is_main _ = false

-- The phase of a declaration and its like is 1, or 5 after an item of phase 2, 3 or 4.
abbrev pub part_phase : Bool → Option ℕ
part_phase begun = Some (if begun then 5 else 1)

-- The phase of an item at program level, where it is known whether an item of phase 2, 3 or 4 is
-- before it. States, C code, `}`, the empty item and faulty items have none.
abbrev pub phase_of : Bool → ItemKind → Option ℕ
phase_of begun kind.Header = Some 0
phase_of begun kind.Entry = Some 2
phase_of begun kind.SsBegin = Some 3
phase_of begun kind.Exit = Some 4
phase_of begun kind.Declaration = part_phase begun
phase_of begun kind.Foreign = part_phase begun
phase_of begun kind.Clause = part_phase begun
phase_of begun kind.OptionLine = part_phase begun
phase_of begun kind.Function = part_phase begun
phase_of begun kind.StructDef = part_phase begun
phase_of begun _ = None

-- An item of phase 2, 3 or 4 is at program level before item i.
abbrev pub has_begun : LinkedItems → ℕ → Bool
has_begun l i = any_below (λ j. kind_is is_main l j && is_none (enclosing_set l.outlines j)) i

-- The phase of an item. One in a state set has none.
abbrev pub phase : LinkedItems → ℕ → Option ℕ
phase l i = if is_none (enclosing_set l.outlines i) then option_and_then (phase_of (has_begun l i)) (slice_get l.kinds i) else None

abbrev pub exceeds : Option ℕ → Option ℕ → Bool
exceeds (Some a) (Some b) = nat_lt b a
exceeds _ _ = false

-- The item has a phase, and an earlier one has a greater phase.
abbrev pub is_late : LinkedItems → ℕ → Bool
is_late l i = any_below (λ j. exceeds (phase l j) (phase l i)) i

-- What may not be in a state set.
abbrev pub is_barred_in_sets : ItemKind → Bool
is_barred_in_sets kind.Header = true
is_barred_in_sets kind.OptionLine = true
is_barred_in_sets kind.Entry = true
is_barred_in_sets kind.Exit = true
is_barred_in_sets kind.Function = true
is_barred_in_sets kind.StructDef = true
is_barred_in_sets _ = false

-- A state at program level, or an item that may not be in the state set that it is in.
abbrev pub is_barred : LinkedItems → ℕ → Bool
is_barred l i = kind_is (λ k. if is_none (enclosing_set l.outlines i) then is_state k else is_barred_in_sets k) l i

-- The second or a later item that begins with `program`.
abbrev pub is_later_program : List Outline → ℕ → Bool
is_later_program ss i = is_program_item ss i && any_below (is_program_item ss) i

-- E03. A second or later header is out of place by another rule.
abbrev pub is_misplaced : LinkedItems → ℕ → Bool
is_misplaced l i = (is_late l i || is_barred l i) && not (is_later_program l.outlines i)

-- The `}` item that is in a state set closes it.
abbrev pub is_closed : List Outline → ℕ → Bool
is_closed ss k = any_below (λ j. is_set_end ss j && stands_in ss k j) (length ss)

-- E04: a state set that no `}` item closes, and a `}` item that closes none.
abbrev pub is_unmatched : List Outline → ℕ → Bool
is_unmatched ss i = (is_set_begin ss i && not (is_closed ss i)) || (is_set_end ss i && is_none (enclosing_set ss i))

-- E05: a second or later header; a faulty one has its own code.
abbrev pub is_repeated_header : LinkedItems → ℕ → Bool
is_repeated_header l i = kind_is (λ k. not (is_faulty k)) l i && is_later_program l.outlines i

-- A state is in the state set that item k begins.
abbrev pub has_state : List Outline → ℕ → Bool
has_state ss k = any_below (λ j. is_named_state ss j && stands_in ss k j) (length ss)

-- E06: a state set in which no state is.
abbrev pub is_stateless : List Outline → ℕ → Bool
is_stateless ss i = is_set_begin ss i && not (has_state ss i)

-- A finding at the first token of an item. What an item should have given is after the last item.
abbrev pub at_item : Code → ℕ → LinkFault
at_item code i = record { item = i; token = 0; code = code }

abbrev pub found_if : Bool → Code → ℕ → List LinkFault
found_if is_found code i = if is_found then at_item code i ∷ [] else []

abbrev pub at_items_where : Code → (ℕ → Bool) → ℕ → List LinkFault
at_items_where code test n = map (at_item code) (all_below test n)

abbrev pub if_missing : Code → (ℕ → Bool) → ℕ → List LinkFault
if_missing code test n = found_if (not (any_below test n)) code n

abbrev pub misplaced_items : LinkedItems → List LinkFault
misplaced_items l = at_items_where E03 (is_misplaced l) (length l.outlines)

abbrev pub unmatched_braces : List Outline → List LinkFault
unmatched_braces ss = at_items_where E04 (is_unmatched ss) (length ss)

-- Several items begin with `program`, or none does.
abbrev pub header_faults : LinkedItems → List LinkFault
header_faults l = at_items_where E05 (is_repeated_header l) (length l.outlines) ++ if_missing E05 (is_program_item l.outlines) (length l.outlines)

-- A state set has no state, or no item begins with `ss`.
abbrev pub missing_states : List Outline → List LinkFault
missing_states ss = at_items_where E06 (is_stateless ss) (length ss) ++ if_missing E06 (is_ss_item ss) (length ss)

-- What is found of the order of items.
abbrev pub order_faults : LinkedItems → List LinkFault
order_faults l = misplaced_items l ++ unmatched_braces l.outlines ++ header_faults l ++ missing_states l.outlines
