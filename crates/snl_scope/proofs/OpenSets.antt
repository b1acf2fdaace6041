-- Lemmas on places: what one more item is to the state set that is open.
use Rattle.std.proofs.Common.{◌≡◌, ℕ, zero, suc, map, take, ◌+◌, ◌<◌, Bool, true, false, not, ◌&&◌, ◌||◌, List, [], ◌∷◌, ◌++◌, Option, None, Some, slice_get, nat_lt, refl, sym, ap, ◌∙◌, arith, length-append, if◌then◌else◌}
use Rattle.std.specs.Option.{option_map_or}
use borrow.Author.Count.{below_more}
use Rattle.std.proofs.lemmas.Bool.{lt-ltb}
use Rattle.std.proofs.lemmas.List.{take_more}
use Rattle.std.proofs.lemmas.Option.{slice_get_within}
use Rattle.snl_scope.specs.BelowLaws.{any_below_none}
use Rattle.snl_summary.specs.declared.summary.Outline.{Outline}
use Rattle.snl_scope.specs.Below.{last_below}
use Rattle.snl_scope.specs.Places.{begins_set, ends_between, ends_set, is_set_begin, is_set_end, open_before, enclosing_set}
use Rattle.snl_scope.specs.declared.items.heads.Head.{Head}
use Rattle.snl_scope.specs.NameTables.{Placed, head_of}
use Rattle.snl_scope.proofs.Searches.{get-front, get-last, get-or, last_below-none, last_below-same, last_below-within, nat_lt-false}

module _ (ss : List Outline) (i : ℕ) where
  and-false : (b : Bool) → (b && false) ≡ false
  and-false true = refl
  and-false false = refl

  -- what is left of the search before item i
  abbrev earlier : Option ℕ
  earlier = last_below (λ k. is_set_begin ss k && not (ends_between ss k (suc i))) i

  -- an item that begins a state set opens it
  opens : is_set_begin ss i ≡ true → open_before ss (suc i) ≡ Some i
  opens b =
      ap (λ c. if (c && not (ends_between ss i (suc i))) then Some i else earlier) b
      ∙ ap (λ c. if not c then Some i else earlier)
      (any_below_none (λ j. nat_lt i j && is_set_end ss j) (suc i) (λ j l. ap (λ c. c && is_set_end ss j) (nat_lt-false j i l)))

  -- one that ends a state set leaves none open
  closes : is_set_begin ss i ≡ false → is_set_end ss i ≡ true → open_before ss (suc i) ≡ None
  closes b e =
      ap (λ c. if (c && not (ends_between ss i (suc i))) then Some i else earlier) b
      ∙ last_below-none (λ k. is_set_begin ss k && not (ends_between ss k (suc i))) i (λ k l.
      ap (λ c. is_set_begin ss k && not ((c && is_set_end ss i) || ends_between ss k i)) (lt-ltb k i l)
      ∙ ap (λ c. is_set_begin ss k && not (c || ends_between ss k i)) e ∙ and-false (is_set_begin ss k))

  -- and any other changes nothing
  stays : is_set_begin ss i ≡ false → is_set_end ss i ≡ false → open_before ss (suc i) ≡ open_before ss i
  stays b e =
      ap (λ c. if (c && not (ends_between ss i (suc i))) then Some i else earlier) b
      ∙ last_below-same (λ k. is_set_begin ss k && not (ends_between ss k (suc i))) (λ k. is_set_begin ss k && not (ends_between ss k i)) i (λ k l.
      ap (λ c. is_set_begin ss k && not ((nat_lt k i && c) || ends_between ss k i)) e
      ∙ ap (λ c. is_set_begin ss k && not (c || ends_between ss k i)) (and-false (nat_lt k i)))

  pub open_step : (s : Outline) → slice_get ss i ≡ Some s
      → open_before ss (suc i) ≡ (if begins_set s.role then Some i else (if ends_set s.role then None else open_before ss i))
  open_step s at = by (begins_set s.role) (ends_set s.role) (ap (λ o. option_map_or (λ s. begins_set s.role) o false) at) (ap (λ o. option_map_or (λ s. ends_set s.role) o false) at)
    where
      by : (b e : Bool) → is_set_begin ss i ≡ b → is_set_end ss i ≡ e → open_before ss (suc i) ≡ (if b then Some i else (if e then None else open_before ss i))
      by true e p q = opens p
      by false true p q = closes p q
      by false false p q = stays p q

  -- the place of an item that is read
  pub place_here : (s : Outline) → slice_get ss i ≡ Some s → enclosing_set ss i ≡ (if begins_set s.role then None else open_before ss i)
  place_here s at = ap (λ o. if option_map_or (λ s. not (begins_set s.role)) o false then open_before ss i else None) at ∙ by (begins_set s.role)
    where
      by : (b : Bool) → (if not b then open_before ss i else None) ≡ (if b then None else open_before ss i)
      by true = refl
      by false = refl

  -- the state set that an item is in begins before it
  pub place_within : (k : ℕ) → enclosing_set ss i ≡ Some k → k < i
  place_within k = by (option_map_or (λ s. not (begins_set s.role)) (slice_get ss i) false)
    where
      by : (b : Bool) → (if b then open_before ss i else None) ≡ Some k → k < i
      by true e = last_below-within (λ k. is_set_begin ss k && not (ends_between ss k i)) i k e
      by false e = absurd (cc)

-- the places with one more item
pub placed-push : (places : List (Option ℕ)) (ss : List Outline) (n : ℕ) (p : Option ℕ) → Placed places ss n → p ≡ enclosing_set ss n → Placed (places ++ p ∷ []) ss (n + 1)
placed-push places ss n p h e = record {
  len = omega (arith, length-append places (p ∷ []), h.len);
  each = below_more (λ k. slice_get (places ++ p ∷ []) k ≡ Some (enclosing_set ss k)) n
      (λ k l. get-front places p k (omega (arith, l, h.len)) ∙ h.each k l)
      (ap (λ m. slice_get (places ++ p ∷ []) m) (sym h.len) ∙ get-last places p ∙ ap Some e);
}

-- the outline of which a head is told
pub headed : (ss : List Outline) (i : ℕ) (h : Head) → slice_get (map head_of ss) i ≡ Some h → (s : Outline) × (slice_get ss i ≡ Some s) × (head_of s ≡ h)
headed [] i h e = absurd cc
headed (s ∷ ss) zero h e = (s, refl, cc)
headed (s ∷ ss) (suc i) h e = headed ss i h e

-- the heads with one more item
pub heads-push : (hs : List Head) (xs : List Head) (i : ℕ) (h : Head) → hs ≡ take i xs → slice_get xs i ≡ Some h → hs ++ h ∷ [] ≡ take (i + 1) xs
heads-push hs xs i h so_far at =
    ap (λ (l : List Head). l ++ h ∷ []) so_far
    ∙ ap (λ (e : Head). take i xs ++ e ∷ []) (sym (get-or xs i h h at))
    ∙ sym (take_more xs i h (slice_get_within xs i h at))
