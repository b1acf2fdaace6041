-- Lists that are made alike, or of elements that are shifted.
use Rattle.std.proofs.Common.{◌≡◌, ℕ, zero, suc, ◌+◌, ◌<◌, List, [], ◌∷◌, ◌++◌, map, Option, refl, ap₂, arith}
use Rattle.std.specs.List.{AllByRecursion, cons_option, enumerate_from, filter_map, flat_map}
use Rattle.std.specs.Option.{option_to_list}
use Rattle.snl_check.specs.Settings.{gathered}

-- ---- made alike

pub map_same : {X Y : Type 0} (f g : X → Y) (xs : List X) → AllByRecursion (λ x. f x ≡ g x) xs → map f xs ≡ map g xs
map_same f g [] h = refl
map_same {Y = Y} f g (x ∷ xs) h = ap₂ (λ (y : Y) (ys : List Y). y ∷ ys) h.0 (map_same f g xs h.1)

pub flat_same : {X Y : Type 0} (f g : X → List Y) (xs : List X) → AllByRecursion (λ x. f x ≡ g x) xs → flat_map f xs ≡ flat_map g xs
flat_same f g [] h = refl
flat_same {Y = Y} f g (x ∷ xs) h = ap₂ (λ (y : List Y) (ys : List Y). y ++ ys) h.0 (flat_same f g xs h.1)

pub kept_same : {X Y : Type 0} (f g : X → Option Y) (xs : List X) → AllByRecursion (λ x. f x ≡ g x) xs → filter_map f xs ≡ filter_map g xs
kept_same f g [] h = refl
kept_same {Y = Y} f g (x ∷ xs) h = ap₂ (λ (y : Option Y) (ys : List Y). cons_option y ys) h.0 (kept_same f g xs h.1)

pub gathered_same : {X : Type 0} (f g : ℕ → Option X) (n : ℕ) → ((i : ℕ) → i < n → f i ≡ g i) → gathered f n ≡ gathered g n
gathered_same f g zero h = refl
gathered_same {X = X} f g (suc n) h =
    ap₂ (λ (l : List X) (o : Option X). l ++ option_to_list o) (gathered_same f g n (λ i l. h i (omega (arith, l)))) (h n (omega arith))

pub numbered_same : {Y : Type 0} (f g : ℕ × ℕ → Y) (n : ℕ) (js : List ℕ) → AllByRecursion (λ j. (i : ℕ) → f (i, j) ≡ g (i, j)) js → map f (enumerate_from n js) ≡ map g (enumerate_from n js)
numbered_same f g n [] each = refl
numbered_same {Y = Y} f g n (j ∷ js) each = ap₂ (λ (y : Y) (ys : List Y). y ∷ ys) (each.0 n) (numbered_same f g (n + 1) js each.1)

-- ---- of shifted elements

pub map_shift : {X Y : Type 0} (g : Y → Y) (f h : X → Y) (xs : List X) → AllByRecursion (λ x. h x ≡ g (f x)) xs → map h xs ≡ map g (map f xs)
map_shift g f h [] each = refl
map_shift {Y = Y} g f h (x ∷ xs) each = ap₂ (λ (y : Y) (ys : List Y). y ∷ ys) each.0 (map_shift g f h xs each.1)

pub numbered_shift : {Y : Type 0} (g : Y → Y) (f h : ℕ × ℕ → Y) (n : ℕ) (js : List ℕ) → AllByRecursion (λ j. (i : ℕ) → h (i, j) ≡ g (f (i, j))) js →
    map h (enumerate_from n js) ≡ map g (map f (enumerate_from n js))
numbered_shift g f h n [] each = refl
numbered_shift {Y = Y} g f h n (j ∷ js) each = ap₂ (λ (y : Y) (ys : List Y). y ∷ ys) (each.0 n) (numbered_shift g f h (n + 1) js each.1)
