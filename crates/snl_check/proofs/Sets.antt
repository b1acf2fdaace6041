-- The members of a state set, and what is found among them.
use Rattle.std.proofs.Common.{◌≡◌, ◌⊎◌, ◌&&◌, ◌||◌, ℕ, zero, suc, ◌+◌, ◌-◌, ◌<◌, ◌≤◌, Bool, true, false, List, [], ◌∷◌, ◌++◌, length, length-append, get_or, map, nat_lt, All, Option, Some, None, inl, inr, refl, sym, ap, subst, ◌∙◌, add-one, arith, if◌then◌else◌, option_copied, is_some, Bor}
use Rattle.std.proofs.lemmas.Bool.{cases_lt}
use Rattle.std.proofs.Math.Seq.{get_or-append_seam}
use Rattle.std.proofs.lemmas.List.{append-nil, get_or_append_left, length-map, map-append}
use Rattle.std.proofs.lemmas.List.Elements.{All-map}
use borrow.Author.Tests.{le-ltb, lt-ltb}
use Rattle.snl_scope.specs.BelowLaws.{any_below_none}
use Rattle.snl_summary.specs.declared.summary.Outline.{Outline}
use Rattle.snl_scope.specs.Below.{all_below, any_below}
use Rattle.snl_scope.specs.Places.{stands_in}
use Rattle.snl_check.specs.declared.reachability.marks.SetMember.{SetMember}
use Rattle.snl_check.specs.SetsLaws.{all_past, any_past, kept_within}
use Rattle.snl_check.specs.Reach.{AreStates}
use Rattle.snl_check.specs.Members.{numbers_by_member}

and_false : (b : Bool) → (b && false) ≡ false
and_false true = refl
and_false false = refl

and_true : (b : Bool) → (b && true) ≡ b
and_true true = refl
and_true false = refl

-- searches that pass over numbers
pub all_none : (p : ℕ → Bool) (n : ℕ) → ((j : ℕ) → j < n → p j ≡ false) → all_below p n ≡ []
all_none p zero h = refl
all_none p (suc n) h = ap (λ l. l ++ (if p n then n ∷ [] else [])) (all_none p n (λ j l. h j (omega (arith, l)))) ∙ ap (λ b. if b then n ∷ [] else []) (h n (omega arith))

-- the members of a set, of which the items from `from` up to `end` are all
module _ (ss : List Outline) (k : ℕ) (test : ℕ → Bool) (end : ℕ) (some : k < end) (within : end ≤ length ss)
    (items : (j : ℕ) → j < length ss → stands_in ss k j ≡ (nat_lt k j && nat_lt j end)) where
  outside : (j : ℕ) → j < length ss → (j ≤ k) ⊎ (end ≤ j) → (test j && stands_in ss k j) ≡ false
  outside j l (inl low) = ap (λ b. test j && b) (items j l ∙ ap (λ b. b && nat_lt j end) (le-ltb k j low)) ∙ and_false (test j)
  outside j l (inr far) = ap (λ b. test j && b) (items j l ∙ ap (λ b. nat_lt k j && b) (le-ltb j end far) ∙ and_false (nat_lt k j)) ∙ and_false (test j)

  pub members_none : all_below (λ j. test j && stands_in ss k j) (k + 1) ≡ []
  members_none = all_none (λ j. test j && stands_in ss k j) (k + 1) (λ j l. outside j (omega (arith, l, some, within)) (inl (omega (arith, l))))

  pub members_no_one : any_below (λ j. test j && stands_in ss k j) (k + 1) ≡ false
  members_no_one = any_below_none (λ j. test j && stands_in ss k j) (k + 1) (λ j l. outside j (omega (arith, l, some, within)) (inl (omega (arith, l))))

  -- an item of the set
  here : (i : ℕ) → k < i → i < end → (test i && stands_in ss k i) ≡ test i
  here i l m =
      ap (λ b. test i && b) (items i (omega (arith, m, within)) ∙ ap (λ b. b && nat_lt i end) (lt-ltb k i l) ∙ lt-ltb i end m) ∙ and_true (test i)

  pub members_more : (i : ℕ) → k < i → i < end → all_below (λ j. test j && stands_in ss k j) (i + 1) ≡ all_below (λ j. test j && stands_in ss k j) i ++ (if test i then i ∷ [] else [])
  members_more i l m = ap (all_below (λ j. test j && stands_in ss k j)) (add-one i) ∙ ap (λ b. all_below (λ j. test j && stands_in ss k j) i ++ (if b then i ∷ [] else [])) (here i l m)

  pub members_one_more : (i : ℕ) → k < i → i < end → any_below (λ j. test j && stands_in ss k j) (i + 1) ≡ (test i || any_below (λ j. test j && stands_in ss k j) i)
  members_one_more i l m = ap (any_below (λ j. test j && stands_in ss k j)) (add-one i) ∙ ap (λ b. b || any_below (λ j. test j && stands_in ss k j) i) (here i l m)

  pub members_all : all_below (λ j. test j && stands_in ss k j) (length ss) ≡ all_below (λ j. test j && stands_in ss k j) end
  members_all =
      let same : end + (length ss - end) ≡ length ss = omega (arith, within) in
      ap (all_below (λ j. test j && stands_in ss k j)) (sym same) ∙ all_past (λ j. test j && stands_in ss k j) end (length ss - end) (λ j l m. outside j (omega (arith, m, same)) (inr l))

  pub members_any : any_below (λ j. test j && stands_in ss k j) (length ss) ≡ any_below (λ j. test j && stands_in ss k j) end
  members_any =
      let same : end + (length ss - end) ≡ length ss = omega (arith, within) in
      ap (any_below (λ j. test j && stands_in ss k j)) (sym same) ∙ any_past (λ j. test j && stands_in ss k j) end (length ss - end) (λ j l m. outside j (omega (arith, m, same)) (inr l))

-- the targets of the members of a set are states
module _ (ss : List Outline) (states : List ℕ) where
  pub numbers_are_states : (named : List SetMember) → length named ≡ length states → AreStates (map (numbers_by_member ss states) named)
  numbers_are_states named count =
      subst (λ n. All (All (λ t. t < n)) (map (numbers_by_member ss states) named)) (sym (length-map named (numbers_by_member ss states) ∙ count))
      (All-map (All (λ t. t < length states)) (numbers_by_member ss states) named (λ i d l. kept_within ss states (get_or named i d).item (get_or named i d).targets.now))

pub copied_some : {X : Type 0} (o : Option (Bor X)) → is_some (option_copied o) ≡ is_some o
copied_some None = refl
copied_some (Some x) = refl

-- what one more number brings, where it passes
pub map_more : {X : Type 0} (f : ℕ → X) (p : ℕ → Bool) (i : ℕ) (b : Bool) → p i ≡ b → map f (all_below p (i + 1)) ≡ map f (all_below p i) ++ (if b then f i ∷ [] else [])
map_more f p i b h =
    ap (λ n. map f (all_below p n)) (add-one i) ∙ map-append f (all_below p i) (if p i then i ∷ [] else [])
    ∙ ap (λ c. map f (all_below p i) ++ map f (if c then i ∷ [] else [])) h ∙ ap (λ l. map f (all_below p i) ++ l) (by b)
  where
    by : (c : Bool) → map f (if c then i ∷ [] else []) ≡ (if c then f i ∷ [] else [])
    by true = refl
    by false = refl

-- the numbers below n that pass a test are below n
pub within_below : (p : ℕ → Bool) (n i d : ℕ) → i < length (all_below p n) → get_or (all_below p n) i d < n
within_below p zero i d h = absurd (omega (arith, h))
within_below p (suc n) i d h = by (p n) (within_below p n i d) h
  where
    by : (b : Bool) → (i < length (all_below p n) → get_or (all_below p n) i d < n) → i < length (all_below p n ++ (if b then n ∷ [] else [])) → get_or (all_below p n ++ (if b then n ∷ [] else [])) i d < suc n
    by false below l =
        let less = below (subst (λ xs. i < length xs) (append-nil (all_below p n)) l) in
        subst (λ xs. get_or xs i d < suc n) (sym (append-nil (all_below p n))) (omega (arith, less))
    by true below l =
        elim (cases_lt i (length (all_below p n))) [
          | inl inside ↦
              let less = below inside in
              let same = get_or_append_left (all_below p n) (n ∷ []) d i inside in
              omega (arith, less, same)
          | inr past ↦
              let last : i ≡ length (all_below p n) = omega (arith, past, l, length-append (all_below p n) (n ∷ [])) in
              let same : get_or (all_below p n ++ n ∷ []) i d ≡ n = ap (λ k. get_or (all_below p n ++ n ∷ []) k d) last ∙ get_or-append_seam (all_below p n) n [] d in
              omega (arith, same)
        ]
