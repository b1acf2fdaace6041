-- What a description names is what may come.
use Rattle.std.proofs.Common.{◌≡◌, ◌⊎◌, ℕ, Bool, true, false, ◌&&◌, ◌||◌, cond, List, [], ◌∷◌, ◌++◌, filter, if◌then◌else◌, not, refl, sym, ap, subst, ◌∙◌, inl, inr, true≢false}
use Rattle.std.specs.List.{All, Contains, fold, list_any}
use Rattle.std.proofs.lemmas.Bool.{and_parts}
use Rattle.std.proofs.lemmas.List.Elements.{All-cons, All-contains, All-filter, All-head, All-nil, All-push, All-tail, All-weaker, Contains-append_left, Contains-append_right, Contains-push, filter_passes}
use Rattle.std.proofs.lemmas.List.Folds.{list_any_at}
use Rattle.snl_lex.specs.declared.kind.Kind.{Kind}
use Rattle.snl_expected.specs.declared.groups.Group.{Group}
use Rattle.snl_expected.specs.Groups.{all_groups, groups_named, has, is_covered, is_group_named, is_single, kinds_named, with_group, description_of}
use Rattle.snl_expected.specs.DescriptionLaws.{IsDescribed}

-- what passes the test stays
kept : {X : Type 0} (p : X → Bool) (xs : List X) → All (λ y. p y ≡ true → Contains (filter p xs) y) xs
kept p [] = All-nil (λ y. p y ≡ true → Contains [] y)
kept {X} p (x ∷ xs) =
    All-cons (λ y. p y ≡ true → Contains (filter p (x ∷ xs)) y) x xs
    (λ t. subst (λ (b : Bool). Contains (cond b (x ∷ filter p xs) (filter p xs)) x) (sym t) (Contains-append_left (x ∷ []) (filter p xs) x (Contains-push [] x)))
    (All-weaker (λ y. p y ≡ true → Contains (filter p xs) y) (λ y. p y ≡ true → Contains (filter p (x ∷ xs)) y) (λ y f t. later (p x) y (f t)) xs (kept p xs))
  where
    later : (b : Bool) (y : X) → Contains (filter p xs) y → Contains (cond b (x ∷ filter p xs) (filter p xs)) y
    later true y h = Contains-append_right (x ∷ []) (filter p xs) y h
    later false y h = h

contains_filter : {X : Type 0} (p : X → Bool) (xs : List X) (x : X) → Contains xs x → p x ≡ true → Contains (filter p xs) x
contains_filter p xs x h = All-contains (λ y. p y ≡ true → Contains (filter p xs) y) xs x (kept p xs) h

any_contained : {X : Type 0} (p : X → Bool) (xs : List X) (x : X) → Contains xs x → p x ≡ true → list_any p xs ≡ true
any_contained p xs x h t = list_any_at p xs h.0 x h.1 (ap p h.2 ∙ t)

-- no group that is named stands for a kind that may not come
abbrev IsClear : List Kind → Group → Type 0
IsClear others g = list_any (has g) others ≡ false

not_true : (b : Bool) → not b ≡ true → b ≡ false
not_true true h = absurd (true≢false (sym h))
not_true false h = refl

clear : (expected others : List Kind) (gs named : List Group) → All (IsClear others) named → All (IsClear others) (fold (with_group expected others) named gs)
clear expected others [] named h = h
clear expected others (g ∷ gs) named h = clear expected others gs (with_group expected others named g) (step (is_group_named expected others named g) refl)
  where
    step : (b : Bool) → is_group_named expected others named g ≡ b → All (IsClear others) (if b then named ++ g ∷ [] else named)
    step true e = All-push (IsClear others) named g h (not_true (list_any (has g) others) (and_parts (not (list_any (has g) others)) _ e).0)
    step false e = h

uncovered : (others : List Kind) (k : Kind) → Contains others k → (gs : List Group) → All (IsClear others) gs → is_covered gs k ≡ false
uncovered others k there [] h = refl
uncovered others k there (g ∷ gs) h = by (has g k) refl (uncovered others k there gs (All-tail (IsClear others) g gs h))
  where
    by : (b : Bool) → has g k ≡ b → is_covered gs k ≡ false → (has g k || is_covered gs k) ≡ false
    by true e rest = absurd (true≢false (sym (any_contained (has g) others k there e) ∙ All-head (IsClear others) g gs h))
    by false e rest = ap (λ b. b || is_covered gs k) e ∙ rest

module _ (test : Kind → Bool) (all : List Kind) (k : Kind) (there : Contains all k) where
  abbrev expected : List Kind
  expected = filter test all

  abbrev others : List Kind
  others = filter (λ x. not (test x)) all

  abbrev groups : List Group
  groups = groups_named expected others

  by_group : (b : Bool) → test k ≡ b → is_covered groups k ≡ true → b ≡ true
  by_group true e h = refl
  by_group false e h =
      let other = contains_filter (λ x. not (test x)) all k there (ap not e) in
      absurd (true≢false (sym h ∙ uncovered others k other groups (clear expected others all_groups [] (All-nil (IsClear others)))))

  by_itself : Contains (kinds_named groups expected) k → test k ≡ true
  by_itself h =
      let in_expected = All-contains (λ x. test x ≡ true) (kinds_named groups expected) k (passed (filter_passes test all)) h in
      in_expected
    where
      passed : All (λ x. test x ≡ true) expected → All (λ x. test x ≡ true) (kinds_named groups expected)
      passed h = All-filter (is_single groups) (λ x. test x ≡ true) expected h

  pub described_comes : IsDescribed (description_of expected others) k → test k ≡ true
  described_comes d = elim d [
    | inl covered ↦ by_group (test k) refl covered
    | inr alone ↦ by_itself alone
  ]

  pub comes_described : test k ≡ true → IsDescribed (description_of expected others) k
  comes_described t = by (is_covered groups k) refl
    where
      by : (b : Bool) → is_covered groups k ≡ b → IsDescribed (description_of expected others) k
      by true e = inl e
      by false e = inr (contains_filter (is_single groups) expected k (contains_filter test all k there t) (ap not e))
