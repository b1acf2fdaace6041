-- What is found of the order of items, where they are in the same places, are of the same kinds and
-- begin with the same words.
use Rattle.std.proofs.Common.{◌≡◌, ℕ, Bool, false, not, ◌&&◌, ◌||◌, if◌then◌else◌, List, ◌++◌, length, map, nat_eq, Option, None, is_none, slice_get, ap, ap₂, ◌∙◌}
use Rattle.std.specs.Option.{option_and_then, option_map_or}
use Rattle.snl_codes.specs.declared.code.Code.{Code}
use Rattle.snl_codes.specs.declared.code.Code.TheVariants.{E03, E04, E05, E06}
use Rattle.snl_scope.specs.declared.facts.LinkFault.{LinkFault}
use Rattle.snl_summary.specs.declared.summary.ItemKind.{ItemKind}
use Rattle.snl_summary.specs.declared.summary.Outline.{Outline}
use Rattle.snl_scope.specs.Below.{all_below, any_below}
use Rattle.snl_scope.specs.BelowLaws.{all_below_same, any_below_same}
use Rattle.snl_scope.specs.LinkedItems.{LinkedItems, kind_is}
use Rattle.snl_scope.specs.Order.{at_item, at_items_where, exceeds, found_if, has_begun, has_state, if_missing, is_barred, is_barred_in_sets, is_closed, is_faulty, is_late, is_later_program, is_main, is_misplaced, is_named_state, is_program_item, is_repeated_header, is_ss_item, is_state, is_stateless, is_unmatched, order_faults, phase, phase_of}
use Rattle.snl_scope.specs.Places.{enclosing_set, is_set_begin, is_set_end, stands_in}

-- What the order of items goes by.
pub record AreOrderedAlike (ss ts : List Outline) : Type 0 where
  pub count : length ts ≡ length ss
  pub places : (i : ℕ) → enclosing_set ts i ≡ enclosing_set ss i
  pub begins : (i : ℕ) → is_set_begin ts i ≡ is_set_begin ss i
  pub ends : (i : ℕ) → is_set_end ts i ≡ is_set_end ss i
  pub programs : (i : ℕ) → is_program_item ts i ≡ is_program_item ss i
  pub sets : (i : ℕ) → is_ss_item ts i ≡ is_ss_item ss i
  pub states : (i : ℕ) → is_named_state ts i ≡ is_named_state ss i

module _ (ss ts : List Outline) (alike : AreOrderedAlike ss ts) (ks : List ItemKind) where
  abbrev l : LinkedItems
  l = record { outlines = ss; kinds = ks }

  abbrev m : LinkedItems
  m = record { outlines = ts; kinds = ks }

  -- ---- each item

  begun : (i : ℕ) → has_begun m i ≡ has_begun l i
  begun i =
      any_below_same (λ j. kind_is is_main m j && is_none (enclosing_set ts j)) (λ j. kind_is is_main l j && is_none (enclosing_set ss j)) i
      (λ j below. ap (λ (p : Option ℕ). kind_is is_main l j && is_none p) (alike.places j))

  phases : (i : ℕ) → phase m i ≡ phase l i
  phases i = ap₂ (λ (p : Option ℕ) (b : Bool). if is_none p then option_and_then (phase_of b) (slice_get ks i) else None) (alike.places i) (begun i)

  late : (i : ℕ) → is_late m i ≡ is_late l i
  late i = any_below_same (λ j. exceeds (phase m j) (phase m i)) (λ j. exceeds (phase l j) (phase l i)) i (λ j below. ap₂ exceeds (phases j) (phases i))

  barred : (i : ℕ) → is_barred m i ≡ is_barred l i
  barred i = ap (λ (p : Option ℕ). kind_is (λ k. if is_none p then is_state k else is_barred_in_sets k) l i) (alike.places i)

  later : (i : ℕ) → is_later_program ts i ≡ is_later_program ss i
  later i = ap₂ (λ (a b : Bool). a && b) (alike.programs i) (any_below_same (is_program_item ts) (is_program_item ss) i (λ j below. alike.programs j))

  misplaced : (i : ℕ) → is_misplaced m i ≡ is_misplaced l i
  misplaced i = ap₂ (λ (a b : Bool). a && not b) (ap₂ (λ (a b : Bool). a || b) (late i) (barred i)) (later i)

  repeated : (i : ℕ) → is_repeated_header m i ≡ is_repeated_header l i
  repeated i = ap (λ (b : Bool). kind_is (λ k. not (is_faulty k)) l i && b) (later i)

  -- ---- each state set

  inside : (k j : ℕ) → stands_in ts k j ≡ stands_in ss k j
  inside k j = ap (λ (p : Option ℕ). option_map_or (nat_eq k) p false) (alike.places j)

  closed : (k : ℕ) → is_closed ts k ≡ is_closed ss k
  closed k =
      any_below_same (λ j. is_set_end ts j && stands_in ts k j) (λ j. is_set_end ss j && stands_in ss k j) (length ts)
      (λ j below. ap₂ (λ (a b : Bool). a && b) (alike.ends j) (inside k j))
      ∙ ap (any_below (λ j. is_set_end ss j && stands_in ss k j)) alike.count

  unmatched : (i : ℕ) → is_unmatched ts i ≡ is_unmatched ss i
  unmatched i =
      ap₂ (λ (a b : Bool). a || b) (ap₂ (λ (a b : Bool). a && not b) (alike.begins i) (closed i))
      (ap₂ (λ (a : Bool) (p : Option ℕ). a && is_none p) (alike.ends i) (alike.places i))

  has_states : (k : ℕ) → has_state ts k ≡ has_state ss k
  has_states k =
      any_below_same (λ j. is_named_state ts j && stands_in ts k j) (λ j. is_named_state ss j && stands_in ss k j) (length ts)
      (λ j below. ap₂ (λ (a b : Bool). a && b) (alike.states j) (inside k j))
      ∙ ap (any_below (λ j. is_named_state ss j && stands_in ss k j)) alike.count

  stateless : (i : ℕ) → is_stateless ts i ≡ is_stateless ss i
  stateless i = ap₂ (λ (a b : Bool). a && not b) (alike.begins i) (has_states i)

  -- ---- what is found

  found_where : (code : Code) (f g : ℕ → Bool) → ((i : ℕ) → f i ≡ g i) → at_items_where code f (length ts) ≡ at_items_where code g (length ss)
  found_where code f g same = ap (map (at_item code)) (all_below_same f g (length ts) (λ j below. same j) ∙ ap (all_below g) alike.count)

  missing : (code : Code) (f g : ℕ → Bool) → ((i : ℕ) → f i ≡ g i) → if_missing code f (length ts) ≡ if_missing code g (length ss)
  missing code f g same = ap₂ (λ (b : Bool) (n : ℕ). found_if (not b) code n) (any_below_same f g (length ts) (λ j below. same j) ∙ ap (any_below g) alike.count) alike.count

  pub order_stays : order_faults m ≡ order_faults l
  order_stays =
      ap₂ (λ (a b : List LinkFault). a ++ b)
      (ap₂ (λ (a b : List LinkFault). a ++ b)
      (ap₂ (λ (a b : List LinkFault). a ++ b) (found_where E03 (is_misplaced m) (is_misplaced l) misplaced) (found_where E04 (is_unmatched ts) (is_unmatched ss) unmatched))
      (ap₂ (λ (a b : List LinkFault). a ++ b) (found_where E05 (is_repeated_header m) (is_repeated_header l) repeated) (missing E05 (is_program_item ts) (is_program_item ss) alike.programs)))
      (ap₂ (λ (a b : List LinkFault). a ++ b) (found_where E06 (is_stateless ts) (is_stateless ss) stateless) (missing E06 (is_ss_item ts) (is_ss_item ss) alike.sets))
