-- Lemmas on the order of items: what one more item is to the phases and findings before it.
use Rattle.std.proofs.Common.{◌≡◌, ℕ, zero, suc, ◌+◌, Bool, true, false, not, ◌&&◌, ◌||◌, List, [], ◌∷◌, ◌++◌, map, Option, None, Some, is_none, is_some, slice_get, nat_lt, refl, sym, ap, ◌∙◌, arith, add-one, append_assoc, if◌then◌else◌}
use Rattle.std.specs.Option.{option_map, option_map_or, option_and_then}
use Rattle.std.proofs.lemmas.Bool.Decides.{nat_tests}
use Rattle.std.proofs.lemmas.Option.{slice_get-map}
use Rattle.snl_codes.specs.declared.code.Code.{Code}
use Rattle.snl_scope.specs.declared.facts.LinkFault.{LinkFault}
use Rattle.snl_scope.specs.declared.items.heads.Head.{Head}
use Rattle.snl_scope.specs.declared.items.heads.Sought.{Sought}
use Rattle.snl_scope.specs.declared.items.heads.Sought.TheVariants as sought
use Rattle.snl_summary.specs.declared.summary.ItemKind.{ItemKind}
use Rattle.snl_summary.specs.declared.summary.Outline.{Outline}
use Rattle.snl_scope.specs.Below.{all_below, any_below}
use Rattle.snl_scope.specs.LinkedItems.{LinkedItems, kind_is}
use Rattle.snl_scope.specs.Order.{at_item, at_items_where, exceeds, found_if, has_begun, is_barred, is_barred_in_sets, is_faulty, is_late, is_main, is_misplaced, is_program_item, is_program_word, is_repeated_header, is_state, is_state_word, phase, phase_of, state_name}
use Rattle.snl_scope.specs.Places.{ends_set, item_is, enclosing_set}
use Rattle.snl_scope.specs.NameTables.{and_item, barred_at, before, greatest_before, head_of, is_sought_head, is_below, is_sought, misplaced_after, phase_in, with_phase}

map-append : {A B : Type 0} (f : A → B) (xs ys : List A) → map f (xs ++ ys) ≡ map f xs ++ map f ys
map-append f [] ys = refl
map-append f (x ∷ xs) ys = ap (λ l. f x ∷ l) (map-append f xs ys)

-- the findings with one more item
pub found-step : (code : Code) (test : ℕ → Bool) (start now after : List LinkFault) (i : ℕ) (b : Bool)
    → now ≡ start ++ at_items_where code test i → b ≡ test i → after ≡ now ++ found_if b code i → after ≡ start ++ at_items_where code test (i + 1)
found-step code test start now after i b h e g =
    g ∙ ap (λ l. l ++ found_if b code i) h ∙ append_assoc start (at_items_where code test i) (found_if b code i)
    ∙ ap (λ l. start ++ l) (ap (λ d. at_items_where code test i ++ found_if d code i) e ∙ ap (λ l. at_items_where code test i ++ l) (sym (by (test i)))
    ∙ sym (map-append (at_item code) (all_below test i) (if test i then i ∷ [] else []))) ∙ ap (λ n. start ++ at_items_where code test n) (sym (add-one i))
  where
    by : (d : Bool) → map (at_item code) (if d then i ∷ [] else []) ≡ found_if d code i
    by true = refl
    by false = refl

lt-greater : (a b g : ℕ) → (nat_lt b a || nat_lt b g) ≡ nat_lt b (if nat_lt g a then a else g)
lt-greater a b g = grind (arith, nat_tests)

lt-zero : (b : ℕ) → false ≡ nat_lt b 0
lt-zero b = grind (arith, nat_tests)

-- an earlier phase is greater if the greatest one is
late_below : (l : LinkedItems) (p : Option ℕ) (n : ℕ) → any_below (λ j. exceeds (phase l j) p) n ≡ is_below p (greatest_before l n)
late_below l None zero = refl
late_below l (Some b) zero = lt-zero b
late_below l None (suc n) = by (phase l n) ∙ late_below l None n
  where
    by : (o : Option ℕ) → (exceeds o None || any_below (λ j. exceeds (phase l j) None) n) ≡ any_below (λ j. exceeds (phase l j) None) n
    by None = refl
    by (Some a) = refl
late_below l (Some b) (suc n) = ap (λ c. exceeds (phase l n) (Some b) || c) (late_below l (Some b) n) ∙ by (phase l n)
  where
    by : (o : Option ℕ) → (exceeds o (Some b) || nat_lt b (greatest_before l n)) ≡ nat_lt b (with_phase o (greatest_before l n))
    by None = refl
    by (Some a) = lt-greater a b (greatest_before l n)

named-state : (b : Bool) (o : Option (List ℕ)) → is_some (if b then o else None) ≡ (b && is_some o)
named-state true o = refl
named-state false o = refl

-- what is known of an item whose head is read
module _ (ss : List Outline) (i : ℕ) (h : Head) (at : slice_get (map head_of ss) i ≡ Some h) where
  known : option_map head_of (slice_get ss i) ≡ Some h
  known = sym (slice_get-map head_of ss i) ∙ at

  pub head_here : (test : Head → Bool) → item_is (λ s. test (head_of s)) ss i ≡ test h
  head_here test = by (slice_get ss i) known
    where
      by : (o : Option Outline) → option_map head_of o ≡ Some h → option_map_or (λ s. test (head_of s)) o false ≡ test h
      by None e = absurd (cc)
      by (Some s) e = ap (λ o. option_map_or test o false) e

  pub sought_here : (m : Sought) → item_is (is_sought m) ss i ≡ is_sought_head m h
  sought_here sought.End = head_here (λ h. ends_set h.role)
  sought_here sought.State = by (slice_get ss i) known
    where
      by : (o : Option Outline) → option_map head_of o ≡ Some h → option_map_or (λ s. is_some (state_name s)) o false ≡ (is_state_word h.opening && h.is_named)
      by None e = absurd (cc)
      by (Some s) e = named-state (is_state_word s.opening) s.second ∙ ap (λ o. option_map_or (λ h. is_state_word h.opening && h.is_named) o false) e

  -- one more item of a kind
  pub any-step : (test : Head → Bool) → (test h || any_below (item_is (λ s. test (head_of s)) ss) i) ≡ any_below (item_is (λ s. test (head_of s)) ss) (i + 1)
  any-step test = ap (λ b. b || any_below (item_is (λ s. test (head_of s)) ss) i) (sym (head_here test)) ∙ ap (any_below (item_is (λ s. test (head_of s)) ss)) (sym (add-one i))

-- and whose kind is
module _ (l : LinkedItems) (i : ℕ) (h : Head) (k : ItemKind) (at : slice_get (map head_of l.outlines) i ≡ Some h) (is : slice_get l.kinds i ≡ Some k) where
  kind_here : (test : ItemKind → Bool) → kind_is test l i ≡ test k
  kind_here test = ap (λ o. option_map_or test o false) is

  program_here : is_program_item l.outlines i ≡ is_program_word h.opening
  program_here = head_here l.outlines i h at (λ h. is_program_word h.opening)

  phase_here : phase l i ≡ phase_in (has_begun l i) (enclosing_set l.outlines i) k
  phase_here = ap (λ o. if is_none (enclosing_set l.outlines i) then option_and_then (phase_of (has_begun l i)) o else None) is ∙ by (enclosing_set l.outlines i)
    where
      by : (o : Option ℕ) → (if is_none o then phase_of (has_begun l i) k else None) ≡ phase_in (has_begun l i) o k
      by None = refl
      by (Some k) = refl

  late_here : is_late l i ≡ is_below (phase_in (has_begun l i) (enclosing_set l.outlines i) k) (greatest_before l i)
  late_here = late_below l (phase l i) i ∙ ap (λ p. is_below p (greatest_before l i)) phase_here

  barred_here : is_barred l i ≡ barred_at (enclosing_set l.outlines i) k
  barred_here = kind_here (λ k. if is_none (enclosing_set l.outlines i) then is_state k else is_barred_in_sets k) ∙ by (enclosing_set l.outlines i)
    where
      by : (o : Option ℕ) → (if is_none o then is_state k else is_barred_in_sets k) ≡ barred_at o k
      by None = refl
      by (Some k) = refl

  pub misplaced_here : misplaced_after (before l i) (enclosing_set l.outlines i) k h.opening ≡ is_misplaced l i
  misplaced_here =
      ap (λ b. (b || barred_at (enclosing_set l.outlines i) k) && not (is_program_word h.opening && any_below (is_program_item l.outlines) i)) (sym late_here)
      ∙ ap (λ b. (is_late l i || b) && not (is_program_word h.opening && any_below (is_program_item l.outlines) i)) (sym barred_here)
      ∙ ap (λ b. (is_late l i || is_barred l i) && not (b && any_below (is_program_item l.outlines) i)) (sym program_here)

  pub before-step : and_item (before l i) (enclosing_set l.outlines i) k h.opening ≡ before l (i + 1)
  before-step =
      (λ j. record {
        greatest = with_phase (sym phase_here j) (greatest_before l i);
        begun = (sym (kind_here is_main) j && is_none (enclosing_set l.outlines i)) || has_begun l i;
        has_program = sym program_here j || any_below (is_program_item l.outlines) i;
      }) ∙ ap (before l) (sym (add-one i))

  pub repeated_here : (not (is_faulty k) && (is_program_word h.opening && any_below (is_program_item l.outlines) i)) ≡ is_repeated_header l i
  repeated_here =
      ap (λ b. b && (is_program_word h.opening && any_below (is_program_item l.outlines) i)) (sym (kind_here (λ k. not (is_faulty k))))
      ∙ ap (λ b. kind_is (λ k. not (is_faulty k)) l i && (b && any_below (is_program_item l.outlines) i)) (sym program_here)
