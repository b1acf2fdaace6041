-- What follows of state sets whose items follow one another, and of the numbers below one that pass
-- a test: which pass in a set, and that the targets of states are states.
use Rattle.std.proofs.Common.{◌≡◌, ◌⊎◌, ◌&&◌, ◌||◌, ℕ, zero, suc, ◌+◌, ◌-◌, ◌<◌, ◌≤◌, Bool, true, false, not, List, [], ◌∷◌, ◌++◌, length, append_assoc, get_or, nat_eq, nat_lt, slice_get, All, Option, Some, None, inl, inr, refl, sym, ap, subst, ◌∙◌, arith, if◌then◌else◌}
use Rattle.std.specs.List.{cons_option, filter_map}
use Rattle.std.specs.Option.{option_map_or}
use Rattle.std.proofs.lemmas.Bool.{cases_lt, eqb-true, false_from_ne_true, false≢true}
use Rattle.std.proofs.lemmas.List.{append-nil, length-map}
use Rattle.std.proofs.lemmas.List.Elements.{All-append, All-map, All-nil, All-push}
use Rattle.std.proofs.lemmas.List.Quantifiers.{position-Some}
use borrow.Author.Tests.{eq-eqb, le-ltb, lt-ltb}
use Rattle.snl_summary.specs.declared.summary.NameRef.{NameRef}
use Rattle.snl_summary.specs.declared.summary.Outline.{Outline}
use Rattle.snl_scope.specs.Below.{all_below, any_below}
use Rattle.snl_scope.specs.Places.{begins_set, ends_set, item_is, open_before, enclosing_set, stands_in}
use Rattle.snl_item_check.specs.Items.{ProgramItem, summary_of_item}
use Rattle.snl_check.specs.Reach.{AreStates}
use Rattle.snl_check.specs.Members.{number_among, target_number, target_numbers, targets_among}

pub get_here : {X : Type 0} (xs : List X) (j : ℕ) → j < length xs → (x : X) × (slice_get xs j ≡ Some x)
get_here [] j l = absurd (omega (arith, l))
get_here (x ∷ xs) zero l = (x, refl)
get_here (x ∷ xs) (suc j) l = get_here xs j (omega (arith, l))

-- the law of the state sets that items are in
pub record SetsOpenInTurn : Type 0 where
  pub opened : (ss : List Outline) (i : ℕ) (s : Outline) → slice_get ss i ≡ Some s
      → open_before ss (suc i) ≡ (if begins_set s.role then Some i else (if ends_set s.role then None else open_before ss i))
  pub placed : (ss : List Outline) (i : ℕ) (s : Outline) → slice_get ss i ≡ Some s → enclosing_set ss i ≡ (if begins_set s.role then None else open_before ss i)
  pub within : (ss : List Outline) (i k : ℕ) → enclosing_set ss i ≡ Some k → k < i

module _ (law : SetsOpenInTurn) (ss : List Outline) (k : ℕ) where
  stands_from : (j : ℕ) → stands_in ss k j ≡ true → enclosing_set ss j ≡ Some k
  stands_from j = by (enclosing_set ss j)
    where
      by : (o : Option ℕ) → option_map_or (nat_eq k) o false ≡ true → o ≡ Some k
      by None h = absurd (false≢true h)
      by (Some m) h = ap Some (sym (eqb-true k m h))

  stands_is : (j : ℕ) → enclosing_set ss j ≡ Some k → stands_in ss k j ≡ true
  stands_is j h = ap (λ o. option_map_or (nat_eq k) o false) h ∙ eq-eqb k k refl

  -- an item is in the set that the next one is in
  step_back : (j : ℕ) (s : Outline) → slice_get ss j ≡ Some s → k < j → enclosing_set ss (suc j) ≡ Some k → enclosing_set ss j ≡ Some k
  step_back j s at l h = by (begins_set s.role) (ends_set s.role) refl (sym (law.opened ss j s at) ∙ opened (item_is (λ s. not (begins_set s.role)) ss (suc j)) h)
    where
      opened : (b : Bool) → (if b then open_before ss (suc j) else None) ≡ Some k → open_before ss (suc j) ≡ Some k
      opened true e = e
      opened false e = absurd cc

      by : (b e : Bool) → begins_set s.role ≡ b → (if b then Some j else (if e then None else open_before ss j)) ≡ Some k → enclosing_set ss j ≡ Some k
      by true e is o = let same : j ≡ k = cc in absurd (omega (arith, same, l))
      by false true is o = absurd cc
      by false false is o = law.placed ss j s at ∙ ap (λ b. if b then None else open_before ss j) is ∙ o

  back : (d i : ℕ) → k < i → i + d < length ss → enclosing_set ss (i + d) ≡ Some k → enclosing_set ss i ≡ Some k
  back zero i l within h = let same : i + 0 ≡ i = omega arith in subst (λ n. enclosing_set ss n ≡ Some k) same h
  back (suc d) i l within h =
      let same : i + suc d ≡ suc (i + d) = omega arith in
      let inside : i + d < length ss = omega (arith, within) in
      let before : k < i + d = omega (arith, l) in
      let here = get_here ss (i + d) inside in
      back d i l inside (step_back (i + d) here.0 here.1 before (subst (λ n. enclosing_set ss n ≡ Some k) same h))

  between : (i j : ℕ) → k < i → i ≤ j → j < length ss → stands_in ss k j ≡ true → stands_in ss k i ≡ true
  between i j l le within h =
      let same : i + (j - i) ≡ j = omega (arith, le) in
      stands_is i (back (j - i) i l (omega (arith, le, within)) (subst (λ n. enclosing_set ss n ≡ Some k) (sym same) (stands_from j h)))

  none_before : (j : ℕ) → j ≤ k → stands_in ss k j ≡ false
  none_before j l = false_from_ne_true (stands_in ss k j) (λ h. let less = law.within ss j k (stands_from j h) in omega (arith, l, less))

  -- after the item that ends the set no item is in it
  pub none_after : (i : ℕ) → k < i → (i ≡ length ss) ⊎ (stands_in ss k i ≡ false) → (j : ℕ) → i ≤ j → j < length ss → stands_in ss k j ≡ false
  none_after i l end j le within =
      false_from_ne_true (stands_in ss k j) (λ h. elim end [ inl all ↦ omega (arith, all, le, within) | inr out ↦ false≢true (sym out ∙ between i j l le within h) ])

  pub stand_within : (i : ℕ) → k < i → ((j : ℕ) → k < j → j < i → stands_in ss k j ≡ true) → (i ≡ length ss) ⊎ (stands_in ss k i ≡ false) → (j : ℕ) → j < length ss → stands_in ss k j ≡ (nat_lt k j && nat_lt j i)
  stand_within i l inside end j within =
      elim (cases_lt k j) [
        | inr low ↦ none_before j low ∙ sym (ap (λ b. b && nat_lt j i) (le-ltb k j low))
        | inl high ↦
            elim (cases_lt j i) [
              | inl near ↦ inside j high near ∙ sym (ap (λ b. b && nat_lt j i) (lt-ltb k j high) ∙ lt-ltb j i near)
              | inr far ↦ none_after i l end j far within ∙ sym (ap (λ b. b && nat_lt j i) (lt-ltb k j high) ∙ le-ltb j i far)
            ]
      ]

-- searches that pass over numbers
pub all_past : (p : ℕ → Bool) (i d : ℕ) → ((j : ℕ) → i ≤ j → j < i + d → p j ≡ false) → all_below p (i + d) ≡ all_below p i
all_past p i zero h = let same : i + 0 ≡ i = omega arith in ap (all_below p) same
all_past p i (suc d) h =
    let same : i + suc d ≡ suc (i + d) = omega arith in
    ap (all_below p) same ∙ ap (λ b. all_below p (i + d) ++ (if b then (i + d) ∷ [] else [])) (h (i + d) (omega arith) (omega arith))
    ∙ append-nil (all_below p (i + d)) ∙ all_past p i d (λ j l m. h j l (omega (arith, m)))

pub any_past : (p : ℕ → Bool) (i d : ℕ) → ((j : ℕ) → i ≤ j → j < i + d → p j ≡ false) → any_below p (i + d) ≡ any_below p i
any_past p i zero h = let same : i + 0 ≡ i = omega arith in ap (any_below p) same
any_past p i (suc d) h =
    let same : i + suc d ≡ suc (i + d) = omega arith in
    ap (any_below p) same ∙ ap (λ b. b || any_below p (i + d)) (h (i + d) (omega arith) (omega arith)) ∙ any_past p i d (λ j l m. h j l (omega (arith, m)))

-- the numbers below a sum that pass a test: first those below the first number
pub numbers_first : (p : ℕ → Bool) (a b : ℕ) → (more : List ℕ) × (all_below p (a + b) ≡ all_below p a ++ more)
numbers_first p a zero = let same : a + 0 ≡ a = omega arith in ([], ap (all_below p) same ∙ sym (append-nil (all_below p a)))
numbers_first p a (suc b) =
    let next : a + suc b ≡ suc (a + b) = omega arith in
    let rest = numbers_first p a b in
    let last : List ℕ = if p (a + b) then (a + b) ∷ [] else [] in
    (rest.0 ++ last, ap (all_below p) next ∙ ap (λ l. l ++ last) rest.1 ∙ append_assoc (all_below p a) rest.0 last)

-- what each kept image has
all_kept : {X Y : Type 0} (f : X → Option Y) (P : Y → Type 0) → ((x : X) (y : Y) → f x ≡ Some y → P y) → (xs : List X) → All P (filter_map f xs)
all_kept f P h [] = All-nil P
all_kept {Y = Y} f P h (x ∷ xs) = by (f x) refl (all_kept f P h xs)
  where
    by : (o : Option Y) → f x ≡ o → All P (filter_map f xs) → All P (cons_option o (filter_map f xs))
    by None e rest = rest
    by (Some y) e rest = All-append P (y ∷ []) (filter_map f xs) (All-push P [] y (All-nil P) (h x y e)) rest

module _ (ss : List Outline) (states : List ℕ) where
  found_among : (o : Option ℕ) (n : ℕ) → number_among states o ≡ Some n → n < length states
  found_among None n e = absurd cc
  found_among (Some j) n e = (position-Some (nat_eq j) states n 0 e).0

  pub kept_within : (j : ℕ) (targets : List NameRef) → All (λ n. n < length states) (filter_map (target_number ss states j) targets)
  kept_within j targets = all_kept (target_number ss states j) (λ n. n < length states) (λ target n e. found_among _ n e) targets

module _ (text : List ℕ) (xs : List ProgramItem) (ss : List Outline) (states : List ℕ) where
  numbers_within : (o : Option ProgramItem) (j : ℕ) → All (λ n. n < length states) (option_map_or (λ x. filter_map (target_number ss states j) (summary_of_item text x).targets) o [])
  numbers_within None j = All-nil (λ n. n < length states)
  numbers_within (Some x) j = kept_within ss states j (summary_of_item text x).targets

  -- the targets of states are states
  pub targets_are_states : AreStates (targets_among text xs ss states)
  targets_are_states =
      subst (λ count. All (All (λ t. t < count)) (targets_among text xs ss states)) (sym (length-map states (target_numbers text xs ss states)))
      (All-map (All (λ t. t < length states)) (target_numbers text xs ss states) states (λ i d l. numbers_within (slice_get xs (get_or states i d)) (get_or states i d)))
