-- What follows of the numbers below one that pass a test: which these are, that they rise, and what
-- holds of each.
use Rattle.std.proofs.Common.{◌≡◌, ℕ, zero, suc, ◌+◌, ◌<◌, Bool, true, false, ◌&&◌, ◌||◌, cond, List, [], ◌∷◌, ◌++◌, map, refl, sym, ap, ap₂, subst, ◌∙◌, add-one, arith, if◌then◌else◌}
use Rattle.std.proofs.lemmas.List.Elements.{filter-append}
use Rattle.std.proofs.lemmas.List.FromFn.{filter_of_map_range_with_len_more, get_or-map-range_with_len, length-map-range_with_len}
use Rattle.std.proofs.lemmas.List.Kept.{AllPairs-from_increasing, IsStrictlyIncreasing-filter}
use Rattle.std.specs.List.{AllByRecursion as Each, filter, range_with_len}
use Rattle.std.specs.List.Sorted.{IsStrictlyIncreasing}
use Rattle.snl_facts.specs.Each.{EachTwo, each_append, each_weaker, two_from_pairs}
use Rattle.snl_scope.specs.Below.{all_below, any_below}

-- ---- which pass

-- tests that agree below n pass the same numbers
pub all_below_same : (p q : ℕ → Bool) (n : ℕ) → ((k : ℕ) → k < n → p k ≡ q k) → all_below p n ≡ all_below q n
all_below_same p q zero h = refl
all_below_same p q (suc n) h =
    ap (λ l. l ++ (if p n then n ∷ [] else [])) (all_below_same p q n (λ k l. h k (omega (arith, l))))
    ∙ ap (λ b. all_below q n ++ (if b then n ∷ [] else [])) (h n (omega arith))

pub any_below_same : (p q : ℕ → Bool) (n : ℕ) → ((k : ℕ) → k < n → p k ≡ q k) → any_below p n ≡ any_below q n
any_below_same p q zero h = refl
any_below_same p q (suc n) h = ap₂ (λ (a b : Bool). a || b) (h n (omega arith)) (any_below_same p q n (λ k l. h k (omega (arith, l))))

pub any_below_none : (p : ℕ → Bool) (n : ℕ) → ((k : ℕ) → k < n → p k ≡ false) → any_below p n ≡ false
any_below_none p zero h = refl
any_below_none p (suc n) h = ap (λ b. b || any_below p n) (h n (omega arith)) ∙ any_below_none p n (λ k l. h k (omega (arith, l)))

-- those that pass a second test too
pub filter_below : (p q : ℕ → Bool) (n : ℕ) → filter p (all_below q n) ≡ all_below (λ k. p k && q k) n
filter_below p q zero = refl
filter_below p q (suc n) =
    filter-append p (all_below q n) (if q n then n ∷ [] else []) ∙ ap (λ l. l ++ filter p (if q n then n ∷ [] else [])) (filter_below p q n)
    ∙ ap (λ l. all_below (λ k. p k && q k) n ++ l) (last (q n) ∙ both (p n) (q n))
  where
    last : (c : Bool) → filter p (if c then n ∷ [] else []) ≡ (if c then cond (p n) (n ∷ []) [] else [])
    last true = refl
    last false = refl

    both : (b c : Bool) → (if c then cond b (n ∷ []) [] else []) ≡ (if (b && c) then n ∷ [] else [])
    both true c = refl
    both false true = refl
    both false false = refl

-- ---- what holds of each

-- each is below n, and passes
passed : (p : ℕ → Bool) (n : ℕ) → Each (λ k. (k < n) × (p k ≡ true)) (all_below p n)
passed p zero = tt
passed p (suc n) =
    each_append (λ k. (k < suc n) × (p k ≡ true)) (all_below p n) (if p n then n ∷ [] else [])
    (each_weaker (λ k. (k < n) × (p k ≡ true)) (λ k. (k < suc n) × (p k ≡ true)) (λ k h. (omega (arith, h.0), h.1)) (all_below p n) (passed p n))
    (by (p n) refl)
  where
    by : (b : Bool) → p n ≡ b → Each (λ k. (k < suc n) × (p k ≡ true)) (if b then n ∷ [] else [])
    by true e = ((omega arith, e), tt)
    by false e = tt

pub each_below : (P : ℕ → Type 0) (p : ℕ → Bool) (n : ℕ) → ((k : ℕ) → k < n → p k ≡ true → P k) → Each P (all_below p n)
each_below P p n h = each_weaker (λ k. (k < n) × (p k ≡ true)) P (λ k is. h k is.0 is.1) (all_below p n) (passed p n)

pub each_passing : (P : ℕ → Type 0) (p : ℕ → Bool) (n : ℕ) → ((k : ℕ) → p k ≡ true → P k) → Each P (all_below p n)
each_passing P p n h = each_below P p n (λ k l is. h k is)

-- ---- that they rise

abbrev numbers : ℕ → List ℕ
numbers n = map (λ k. k) (range_with_len 0 n)

all_below_filter : (p : ℕ → Bool) (n : ℕ) → all_below p n ≡ filter p (numbers n)
all_below_filter p zero = refl
all_below_filter p (suc n) =
    ap (λ l. l ++ (if p n then n ∷ [] else [])) (all_below_filter p n)
    ∙ sym (filter_of_map_range_with_len_more p (λ k. k) 0 n n (omega arith)) ∙ ap (λ m. filter p (numbers m)) (add-one n)

pub all_below_rises : (p : ℕ → Bool) (n : ℕ) → IsStrictlyIncreasing (all_below p n)
all_below_rises p n =
    subst IsStrictlyIncreasing (sym (all_below_filter p n)) (IsStrictlyIncreasing-filter p (numbers n) (λ k h.
    omega (arith, h, length-map-range_with_len (λ k. k) 0 n, get_or-map-range_with_len (λ k. k) 0 n k k 0, get_or-map-range_with_len (λ k. k) 0 n (k + 1) (k + 1) 0)))

pub two_below : (p : ℕ → Bool) (n : ℕ) → EachTwo (λ a b. a < b) (all_below p n)
two_below p n = two_from_pairs (λ a b. a < b) (all_below p n) (AllPairs-from_increasing (all_below p n) (all_below_rises p n))
