-- The first entry of a name in a namespace, told apart from its number: it is the first among the
-- entries of that name alone.
use Rattle.std.proofs.Common.{◌≡◌, ℕ, suc, ◌+◌, Bool, true, false, not, ◌&&◌, cond, List, [], ◌∷◌, filter, length, nat_lt, Option, None, Some, slice_get, ◌⊎◌, inl, inr, refl, ap, ◌∙◌, arith}
use Rattle.std.specs.List.{position, position_or_len}
use Rattle.std.specs.Option.{option_map}
use Rattle.std.specs.Str.{bytes_eq}
use Rattle.snl_facts.specs.Numbers.{lt_suc, zero_lt}
use Rattle.snl_scope.specs.declared.names.namespaces.Namespace.{Namespace}
use Rattle.snl_scope.specs.Names.{Entry, has_name, same_namespace}

abbrev pub first : {X : Type 0} → (X → Bool) → List X → Option X
first p [] = None
first p (x ∷ xs) = cond (p x) (Some x) (first p xs)

-- no element passes, or the first one that does has a number
pub record Absent {X : Type 0} (p : X → Bool) (xs : List X) : Type 0 where
  pub number : position p xs ≡ None
  pub none : first p xs ≡ None

pub record Present {X : Type 0} (p : X → Bool) (xs : List X) (k : ℕ) (x : X) : Type 0 where
  pub number : position p xs ≡ Some k
  pub one : first p xs ≡ Some x
  pub there : slice_get xs k ≡ Some x
  pub passes : p x ≡ true

abbrev pub Located : {X : Type 0} → (X → Bool) → List X → Type 0
Located {X} p xs = Absent p xs ⊎ ((k : ℕ) × (x : X) × Present p xs k x)

module _ {X : Type 0} (p : X → Bool) where
  position-here : (x : X) (xs : List X) → p x ≡ true → position p (x ∷ xs) ≡ Some 0
  position-here x xs h =
      let n : ℕ = length xs in
      let m : ℕ = position_or_len p xs in
      ap (λ (b : Bool). cond (nat_lt (cond (not b) (1 + m) 0) (suc n)) (Some (cond (not b) (1 + m) 0)) None) h
      ∙ ap (λ (b : Bool). cond b (Some 0) None) (zero_lt n)

  position-later : (x : X) (xs : List X) → p x ≡ false → position p (x ∷ xs) ≡ option_map suc (position p xs)
  position-later x xs h =
      let n : ℕ = length xs in
      let m : ℕ = position_or_len p xs in
      ap (λ (b : Bool). cond (nat_lt (cond (not b) (1 + m) 0) (suc n)) (Some (cond (not b) (1 + m) 0)) None) h
      ∙ ap (λ (b : Bool). cond b (Some (1 + m)) None) (lt_suc m n) ∙ by m (nat_lt m n)
    where
      by : (m : ℕ) (b : Bool) → cond b (Some (1 + m)) None ≡ option_map suc (cond b (Some m) None)
      by m true = let e : 1 + m ≡ suc m = omega arith in ap Some e
      by m false = refl

  pub locate : (xs : List X) → Located p xs
  locate [] = inl (record { number = refl; none = refl })
  locate (x ∷ xs) = by (p x) refl (locate xs)
    where
      by : (b : Bool) → p x ≡ b → Located p xs → Located p (x ∷ xs)
      by true h r = inr (0, x, record { number = position-here x xs h; one = ap (λ (b : Bool). cond b (Some x) (first p xs)) h; there = refl; passes = h })
      by false h (inl a) = inl (record { number = position-later x xs h ∙ ap (option_map suc) a.number; none = ap (λ (b : Bool). cond b (Some x) (first p xs)) h ∙ a.none })
      by false h (inr w) = inr (
        suc w.0,
        w.1,
        record {
          number = position-later x xs h ∙ ap (option_map suc) w.2.number;
          one = ap (λ (b : Bool). cond b (Some x) (first p xs)) h ∙ w.2.one;
          there = w.2.there;
          passes = w.2.passes;
        },
      )

-- the entries of a name
abbrev pub of_name : List ℕ → List Entry → List Entry
of_name name es = filter (λ e. bytes_eq name e.name) es

pub first-of_name : (s : Namespace) (name : List ℕ) (es : List Entry) → first (has_name s name) es ≡ first (λ e. same_namespace s e.namespace) (of_name name es)
first-of_name s name [] = refl
first-of_name s name (e ∷ es) = by (bytes_eq name e.name) (first-of_name s name es)
  where
    inside : first (has_name s name) es ≡ first (λ e. same_namespace s e.namespace) (of_name name es) → (c : Bool)
        → cond (c && true) (Some e) (first (has_name s name) es) ≡ cond c (Some e) (first (λ e. same_namespace s e.namespace) (of_name name es))
    inside rest true = refl
    inside rest false = rest

    outside : first (has_name s name) es ≡ first (λ e. same_namespace s e.namespace) (of_name name es) → (c : Bool)
        → cond (c && false) (Some e) (first (has_name s name) es) ≡ first (λ e. same_namespace s e.namespace) (of_name name es)
    outside rest true = rest
    outside rest false = rest

    by : (b : Bool) → first (has_name s name) es ≡ first (λ e. same_namespace s e.namespace) (of_name name es)
        → cond (same_namespace s e.namespace && b) (Some e) (first (has_name s name) es) ≡ first (λ e. same_namespace s e.namespace) (cond b (e ∷ of_name name es) (of_name name es))
    by true rest = inside rest (same_namespace s e.namespace)
    by false rest = outside rest (same_namespace s e.namespace)
