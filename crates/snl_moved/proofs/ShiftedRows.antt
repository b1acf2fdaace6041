-- Lists of rows of which one is changed, and the numbers before and after one.
use Rattle.std.proofs.Common.{◌≡◌, ℕ, zero, suc, ◌+◌, ◌<◌, ◌&&◌, Bool, true, false, List, [], ◌∷◌, ◌++◌, length, map, Option, inl, inr, if◌then◌else◌, refl, sym, subst, ap, ap₂, ◌∙◌, arith, append_assoc}
use Rattle.std.specs.List.{AllByRecursion, cons_option, enumerate_from, filter_map}
use Rattle.std.proofs.lemmas.Bool.{cases_eq, false≢true}
use Rattle.snl_facts.specs.Each.{each_append}
use Rattle.snl_scope.specs.Below.{all_below}
use Rattle.snl_tables.specs.declared.rows.StateMark.{StateMark}
use Rattle.snl_tables.specs.declared.rows.StateRow.{StateRow}
use Rattle.snl_tables.specs.Shifted.{changed_at, marked, with_own_mark}
use Rattle.snl_moved.proofs.ShiftLists.{map_same}

-- ---- numbers below another: those before a number that passes, it, and those after it

pub record Parts (P : ℕ → Type 0) (p : ℕ → Bool) (n k : ℕ) : Type 0 where
  pub after : List ℕ
  pub whole : all_below p n ≡ all_below p k ++ (k ∷ after)
  pub each : AllByRecursion P after

pub parts_at : (P : ℕ → Type 0) (p : ℕ → Bool) (n k : ℕ) → k < n → p k ≡ true → ((i : ℕ) → k < i → i < n → p i ≡ true → P i) → Parts P p n k
parts_at P p zero k l is h = absurd (omega (arith, l))
parts_at P p (suc n) k l is h =
    elim (cases_eq k n) [
      | inl same ↦ record {
        after = [];
        whole = ap (λ m. all_below p n ++ (if p m then m ∷ [] else [])) (sym same) ∙ ap (λ b. all_below p n ++ (if b then k ∷ [] else [])) is ∙ ap (λ m. all_below p m ++ k ∷ []) (sym same);
        each = tt;
      }
      | inr apart ↦
          let before : Parts P p n k = parts_at P p n k (omega (arith, l, apart)) is (λ i m o. h i m (omega (arith, o))) in
          record {
            after = before.after ++ (if p n then n ∷ [] else []);
            whole = ap (λ xs. xs ++ (if p n then n ∷ [] else [])) before.whole ∙ append_assoc (all_below p k) (k ∷ before.after) (if p n then n ∷ [] else []);
            each = each_append P before.after (if p n then n ∷ [] else []) before.each (by (p n) refl (omega (arith, l, apart)));
          }
    ]
  where
    by : (b : Bool) → p n ≡ b → k < n → AllByRecursion P (if b then n ∷ [] else [])
    by true e m = (h n m (omega arith) e, tt)
    by false e m = tt

-- ---- lists of rows of which one is changed

pub row_changed : {Y : Type 0} (f g : ℕ → Y) (c : Y → Y) (before : List ℕ) (k : ℕ) (after : List ℕ) →
    AllByRecursion (λ i. f i ≡ g i) before → f k ≡ c (g k) → AllByRecursion (λ i. f i ≡ g i) after →
    map f (before ++ (k ∷ after)) ≡ changed_at c (length before) (map g (before ++ (k ∷ after)))
row_changed {Y = Y} f g c [] k after b e a = ap₂ (λ (y : Y) (ys : List Y). y ∷ ys) e (map_same f g after a)
row_changed {Y = Y} f g c (x ∷ xs) k after b e a = ap₂ (λ (y : Y) (ys : List Y). y ∷ ys) b.0 (row_changed f g c xs k after b.1 e a)

numbered_same : {Y : Type 0} (f g : ℕ × ℕ → Y) (n : ℕ) (js : List ℕ) → AllByRecursion (λ j. (i : ℕ) → f (i, j) ≡ g (i, j)) js → map f (enumerate_from n js) ≡ map g (enumerate_from n js)
numbered_same f g n [] h = refl
numbered_same {Y = Y} f g n (j ∷ js) h = ap₂ (λ (y : Y) (ys : List Y). y ∷ ys) (h.0 n) (numbered_same f g (n + 1) js h.1)

pub numbered_changed : {Y : Type 0} (f g : ℕ × ℕ → Y) (c : Y → Y) (n : ℕ) (before : List ℕ) (k : ℕ) (after : List ℕ) →
    AllByRecursion (λ j. (i : ℕ) → f (i, j) ≡ g (i, j)) before → f (n + length before, k) ≡ c (g (n + length before, k)) → AllByRecursion (λ j. (i : ℕ) → f (i, j) ≡ g (i, j)) after →
    map f (enumerate_from n (before ++ (k ∷ after))) ≡ changed_at c (length before) (map g (enumerate_from n (before ++ (k ∷ after))))
numbered_changed {Y = Y} f g c n [] k after b e a =
    let here : n + 0 ≡ n = omega arith in
    ap₂ (λ (y : Y) (ys : List Y). y ∷ ys) (subst (λ (m : ℕ). f (m, k) ≡ c (g (m, k))) here e) (numbered_same f g (n + 1) after a)
numbered_changed {Y = Y} f g c n (x ∷ xs) k after b e a =
    let here : n + suc (length xs) ≡ (n + 1) + length xs = omega arith in
    ap₂ (λ (y : Y) (ys : List Y). y ∷ ys) (b.0 n) (numbered_changed f g c (n + 1) xs k after b.1 (subst (λ (m : ℕ). f (m, k) ≡ c (g (m, k))) here e) a)

-- rows that are others but for their marks
pub marked_rows : (mark : ℕ → ℕ → StateMark) (f g : ℕ × ℕ → StateRow) → ((n j : ℕ) → f (n, j) ≡ with_own_mark (mark n j) (g (n, j))) → (n : ℕ) (js : List ℕ) →
    map f (enumerate_from n js) ≡ marked (map (λ p. mark p.0 p.1) (enumerate_from n js)) (map g (enumerate_from n js))
marked_rows mark f g each n [] = refl
marked_rows mark f g each n (j ∷ js) = ap₂ (λ (row : StateRow) (rows : List StateRow). row ∷ rows) (each n j) (marked_rows mark f g each (n + 1) js)

pub map_twice : {X Y Z : Type 0} (g : Y → Z) (f : X → Y) (xs : List X) → map (λ x. g (f x)) xs ≡ map g (map f xs)
map_twice g f [] = refl
map_twice {Z = Z} g f (x ∷ xs) = ap (λ (zs : List Z). g (f x) ∷ zs) (map_twice g f xs)

pub kept_map : {X Y Z : Type 0} (f : X → Y) (h : Y → Option Z) (xs : List X) → filter_map (λ x. h (f x)) xs ≡ filter_map h (map f xs)
kept_map f h [] = refl
kept_map f h (x ∷ xs) = ap (cons_option (h (f x))) (kept_map f h xs)

pub and_none : (a b c : Bool) → c ≡ false → (a && c) ≡ (b && c)
and_none a b true h = absurd (false≢true (sym h))
and_none true true false h = refl
and_none true false false h = refl
and_none false true false h = refl
and_none false false false h = refl

pub same_either : {X : Type 0} (b : Bool) (o : X) → (if b then o else o) ≡ o
same_either true o = refl
same_either false o = refl
