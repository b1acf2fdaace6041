-- The lines of rows, row by row.
use Rattle.std.proofs.Common.{◌≡◌, ◌<◌, ◌+◌, ℕ, zero, suc, List, [], ◌∷◌, ◌++◌, length, get_or, take, drop, sym, ap, ◌∙◌, append_assoc, arith, add-one}
use Rattle.std.proofs.lemmas.List.{append-nil, flat_map_more, take-append-drop, take_more}
use Rattle.std.proofs.lemmas.List.Concat.{flat_map-append}
use Rattle.std.specs.List.{flat_map}
use Rattle.snl_listing.specs.Listing.{numbered}

pub rows_more : {X : Type 0} (f : X → List ℕ) (xs : List X) (i : ℕ) (d : X) → i < length xs → flat_map f (take i xs) ++ f (get_or xs i d) ≡ flat_map f (take (i + 1) xs)
rows_more {X} f xs i d h = flat_map_more f [] (take i xs) (get_or xs i d) ∙ ap (flat_map f) (sym (take_more xs i d h))

pub rows_all : {X : Type 0} (f : X → List ℕ) (xs : List X) (i : ℕ) (d : X) → i < length xs → flat_map f (take i xs) ++ (f (get_or xs i d) ++ flat_map f (drop (i + 1) xs)) ≡ flat_map f xs
rows_all {X} f xs i d h =
    sym (append_assoc (flat_map f (take i xs)) (f (get_or xs i d)) (flat_map f (drop (i + 1) xs))) ∙
    ap (λ (l : List ℕ). l ++ flat_map f (drop (i + 1) xs)) (rows_more f xs i d h) ∙
    sym (flat_map-append f (take (i + 1) xs) (drop (i + 1) xs)) ∙ ap (flat_map f) (take-append-drop (i + 1) xs)

-- one row more
pub numbered_more : {X : Type 0} (f : ℕ → X → List ℕ) (n : ℕ) (xs : List X) (i m : ℕ) (d : X) → i < length xs → n + i ≡ m → numbered f n (take i xs) ++ f m (get_or xs i d) ≡ numbered f n (take (i + 1) xs)
numbered_more f n [] i m d h e = absurd (omega arith)
numbered_more f n (x ∷ xs) zero m d h e = ap (λ (k : ℕ). f k x) (omega arith) ∙ sym (append-nil (f n x))
numbered_more f n (x ∷ xs) (suc i) m d h e =
    append_assoc (f n x) (numbered f (n + 1) (take i xs)) (f m (get_or xs i d)) ∙
    ap (λ (l : List ℕ). f n x ++ l) (numbered_more f (n + 1) xs i m d (omega arith) (omega arith)) ∙
    ap (λ (k : ℕ). numbered f n (take k (x ∷ xs))) (let same : suc (i + 1) ≡ suc i + 1 = omega arith in same)

-- the rows before one, that one, and those after it
pub numbered_all : {X : Type 0} (f : ℕ → X → List ℕ) (n : ℕ) (xs : List X) (i m : ℕ) (d : X) → i < length xs → n + i ≡ m → numbered f n (take i xs) ++ (f m (get_or xs i d) ++ numbered f (m + 1) (drop (i + 1) xs)) ≡ numbered f n xs
numbered_all f n [] i m d h e = absurd (omega arith)
numbered_all f n (x ∷ xs) zero m d h e = ap (λ (k : ℕ). f k x ++ numbered f (k + 1) xs) (omega arith)
numbered_all f n (x ∷ xs) (suc i) m d h e =
    append_assoc (f n x) (numbered f (n + 1) (take i xs)) (f m (get_or xs i d) ++ numbered f (m + 1) (drop (suc i + 1) (x ∷ xs))) ∙
    ap (λ (l : List ℕ). f n x ++ l) (ap (λ (k : ℕ). numbered f (n + 1) (take i xs) ++ (f m (get_or xs i d) ++ numbered f (m + 1) (drop k (x ∷ xs)))) (add-one (suc i)) ∙ ap (λ (k : ℕ). numbered f (n + 1) (take i xs) ++ (f m (get_or xs i d) ++ numbered f (m + 1) (drop k xs))) (sym (add-one i)) ∙ numbered_all f (n + 1) xs i m d (omega arith) (omega arith))

-- the same of a row that was read
pub numbered_more_read : {X : Type 0} (f : ℕ → X → List ℕ) (n : ℕ) (xs : List X) (i m : ℕ) (x : X) → i < length xs → n + i ≡ m → x ≡ get_or xs i x → numbered f n (take i xs) ++ f m x ≡ numbered f n (take (i + 1) xs)
numbered_more_read {X} f n xs i m x h e is = ap (λ (y : X). numbered f n (take i xs) ++ f m y) is ∙ numbered_more f n xs i m x h e

pub numbered_all_read : {X : Type 0} (f : ℕ → X → List ℕ) (n : ℕ) (xs : List X) (i m : ℕ) (x : X) → i < length xs → n + i ≡ m → x ≡ get_or xs i x → numbered f n (take i xs) ++ (f m x ++ numbered f (m + 1) (drop (i + 1) xs)) ≡ numbered f n xs
numbered_all_read {X} f n xs i m x h e is = ap (λ (y : X). numbered f n (take i xs) ++ (f m y ++ numbered f (m + 1) (drop (i + 1) xs))) is ∙ numbered_all f n xs i m x h e

pub rows_all_read : {X : Type 0} (f : X → List ℕ) (xs : List X) (i : ℕ) (x : X) → i < length xs → x ≡ get_or xs i x → flat_map f (take i xs) ++ (f x ++ flat_map f (drop (i + 1) xs)) ≡ flat_map f xs
rows_all_read {X} f xs i x h is = ap (λ (y : X). flat_map f (take i xs) ++ (f y ++ flat_map f (drop (i + 1) xs))) is ∙ rows_all f xs i x h
