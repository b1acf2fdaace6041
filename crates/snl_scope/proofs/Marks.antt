-- Lemmas on the marks of state sets: what one more item is to the members that are found.
use Rattle.std.proofs.Common.{◌≡◌, ℕ, ◌+◌, ◌<◌, Bool, true, false, not, ◌&&◌, ◌||◌, List, length, map, get_or, set, Option, None, Some, IfSome, is_none, slice_get, nat_eq, refl, sym, ap, ◌∙◌, arith, add-one, true≢false}
use Rattle.std.specs.Option.{option_map_or}
use Rattle.std.proofs.lemmas.List.{get_or-set_other, get_or-set_same, length-set}
use Rattle.std.proofs.lemmas.Option.{slice_get-get_or}
use Rattle.std.proofs.lemmas.Bool.Decides.{Decides-eqb}
use Rattle.snl_scope.specs.declared.items.heads.Head.{Head}
use Rattle.snl_scope.specs.declared.items.heads.Sought.TheVariants as sought
use Rattle.snl_summary.specs.declared.summary.Outline.{Outline}
use Rattle.snl_scope.specs.Below.{any_below}
use Rattle.snl_scope.specs.Order.{has_state, is_closed, is_stateless, is_unmatched}
use Rattle.snl_scope.specs.Places.{begins_set, ends_set, is_set_begin, item_is, enclosing_set, stands_in}
use Rattle.snl_scope.specs.NameTables.{Marked, head_of, is_sought, set_of, with_mark}
use Rattle.snl_scope.proofs.Searches.{get-or}
use Rattle.snl_scope.proofs.OpenSets.{place_within}
use Rattle.snl_scope.proofs.OrderSteps.{head_here}

module _ (test : Outline → Bool) (ss : List Outline) where
  -- members of the state set that item k begins
  abbrev members : ℕ → ℕ → Bool
  members k j = item_is test ss j && stands_in ss k j

  module _ (i : ℕ) (is : Bool) (told : item_is test ss i ≡ is) where
    -- one more mark
    put : (marks : List Bool) (p k : ℕ) → p < length marks → get_or (set marks p true) k false ≡ (nat_eq k p || get_or marks k false)
    put marks p k l = by (nat_eq k p) refl
      where
        by : (b : Bool) → nat_eq k p ≡ b → get_or (set marks p true) k false ≡ (b || get_or marks k false)
        by true e = ap (λ n. get_or (set marks p true) n false) ((Decides-eqb k p).0 e) ∙ get_or-set_same marks p true false l
        by false e = get_or-set_other marks p k true false (λ h. true≢false (sym ((Decides-eqb k p).1 h) ∙ e))

    -- what the item is to the state set that item k begins
    marked_here : (k : ℕ) → members k i ≡ (is && option_map_or (nat_eq k) (enclosing_set ss i) false)
    marked_here k = ap (λ b. b && stands_in ss k i) told

    marks-step : (marks : List Bool) (b : Bool) (p : Option ℕ) → ((j : ℕ) → p ≡ Some j → j < length marks) → (k : ℕ)
        → get_or (with_mark marks (set_of b p)) k false ≡ ((b && option_map_or (nat_eq k) p false) || get_or marks k false)
    marks-step marks false p within k = refl
    marks-step marks true None within k = refl
    marks-step marks true (Some j) within k = put marks j k (within j refl)

    marks-length : (marks : List Bool) (p : Option ℕ) → length (with_mark marks p) ≡ length marks
    marks-length marks None = refl
    marks-length marks (Some k) = length-set marks k true

    pub marked-push : (marks : List Bool) → i < length ss → Marked test marks ss i → Marked test (with_mark marks (set_of is (enclosing_set ss i))) ss (i + 1)
    marked-push marks l m = record {
      len = marks-length marks (set_of is (enclosing_set ss i)) ∙ m.len;
      each = λ k below.
          marks-step marks is (enclosing_set ss i) (λ j e. omega (arith, place_within ss i j e, m.len, l)) k
          ∙ ap (λ b. (is && option_map_or (nat_eq k) (enclosing_set ss i) false) || b) (m.each k below)
          ∙ ap (λ b. b || any_below (members k) i) (sym (marked_here k)) ∙ ap (any_below (members k)) (sym (add-one i));
    }

  -- the mark is set within the marks
  module _ (i : ℕ) where
    pub set_within : (marks : List Bool) (b : Bool) (j : ℕ) → Marked test marks ss i → i < length ss → set_of b (enclosing_set ss i) ≡ Some j → j < length marks
    set_within marks true j m l e = omega (arith, place_within ss i j e, m.len, l)
    set_within marks false j m l e = absurd (cc)

pub if_some : (o : Option ℕ) (P : ℕ → Type 0) → ((k : ℕ) → o ≡ Some k → P k) → IfSome o P
if_some None P h = tt
if_some (Some k) P h = h k refl

module _ (ss : List Outline) (i : ℕ) (h : Head) (at : slice_get (map head_of ss) i ≡ Some h) (l : i < length ss) where
  -- a mark as the loop reads it
  read : (test : Outline → Bool) (marks : List Bool) (mark : Bool) → Marked test marks ss (length ss) → mark ≡ get_or marks i mark
      → mark ≡ any_below (λ j. item_is test ss j && stands_in ss i j) (length ss)
  read test marks mark m e = e ∙ get-or marks i mark (get_or marks i false) (slice_get-get_or marks i false (omega (arith, l, m.len))) ∙ m.each i l

  pub unmatched_here : (marks : List Bool) (mark : Bool) → Marked (is_sought sought.End) marks ss (length ss) → mark ≡ get_or marks i mark
      → ((begins_set h.role && not mark) || (ends_set h.role && is_none (enclosing_set ss i))) ≡ is_unmatched ss i
  unmatched_here marks mark m e =
      ap (λ b. (begins_set h.role && not b) || (ends_set h.role && is_none (enclosing_set ss i))) (read (is_sought sought.End) marks mark m e)
      ∙ ap (λ b. (b && not (is_closed ss i)) || (ends_set h.role && is_none (enclosing_set ss i))) (sym (head_here ss i h at (λ h. begins_set h.role)))
      ∙ ap (λ b. (is_set_begin ss i && not (is_closed ss i)) || (b && is_none (enclosing_set ss i))) (sym (head_here ss i h at (λ h. ends_set h.role)))

  pub stateless_here : (marks : List Bool) (mark : Bool) → Marked (is_sought sought.State) marks ss (length ss) → mark ≡ get_or marks i mark
      → (begins_set h.role && not mark) ≡ is_stateless ss i
  stateless_here marks mark m e =
      ap (λ b. begins_set h.role && not b) (read (is_sought sought.State) marks mark m e)
      ∙ ap (λ b. b && not (has_state ss i)) (sym (head_here ss i h at (λ h. begins_set h.role)))
