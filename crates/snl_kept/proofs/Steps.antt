-- One more element of a list: what is done, and what is left.
use Rattle.std.proofs.Common.{arith, ◌≡◌, ℕ, ◌+◌, ◌<◌, List, [], ◌∷◌, ◌++◌, length, take, drop, get_or, map, ap, sym, ◌∙◌, append_assoc}
use Rattle.std.proofs.Math.Seq.{take-add}
use Rattle.std.proofs.lemmas.List.{drop-map, get_or-map, length-map}
use Rattle.snl_facts.specs.Lists.{drop_here}

-- the same for the images of the elements
pub drop_image : {X Y : Type 0} (f : X → Y) (xs : List X) (i : ℕ) (x : X) → i < length xs → x ≡ get_or xs i x → drop i (map f xs) ≡ f x ∷ drop (i + 1) (map f xs)
drop_image f xs i x within is =
    drop-map f i xs ∙ ap (map f) (drop_here xs i x within is) ∙ ap (λ l. f x ∷ l) (sym (drop-map f (i + 1) xs))

-- the images of two elements of the same number are the same, where those of all are
pub image_at : {X Y Z : Type 0} (f : X → Z) (g : Y → Z) (xs : List X) (ys : List Y) (i : ℕ) (x : X) (y : Y) → map g ys ≡ map f xs → i < length xs → x ≡ get_or xs i x → y ≡ get_or ys i y → g y ≡ f x
image_at f g xs ys i x y same lt ix iy =
    let count : length ys ≡ length xs = sym (length-map ys g) ∙ ap length same ∙ length-map xs f in
    ap g iy
    ∙ sym (get_or-map g ys i y (g y) (omega (arith, lt, count)))
    ∙ ap (λ l. get_or l i (g y)) same
    ∙ get_or-map f xs i x (g y) lt
    ∙ ap f (sym ix)

-- and what is done ends with it
pub take_more : {X : Type 0} (xs : List X) (i : ℕ) (x : X) → drop i xs ≡ x ∷ drop (i + 1) xs → take (i + 1) xs ≡ take i xs ++ x ∷ []
take_more xs i x here = take-add i 1 xs ∙ ap (λ l. take i xs ++ take 1 l) here

-- what a function that goes along with `++` gives of all, where it was added to what is done for
-- the part here
pub added : {X Y : Type 0} (F : List X → List Y) → ((xs ys : List X) → F (xs ++ ys) ≡ F xs ++ F ys) → (whole here rest : List X) (done more all : List Y) → whole ≡ here ++ rest → more ≡ done ++ F here → done ++ F whole ≡ all → more ++ F rest ≡ all
added F joins whole here rest done more all parts new before =
    ap (λ l. l ++ F rest) new
    ∙ append_assoc done (F here) (F rest)
    ∙ ap (λ l. done ++ l) (sym (joins here rest))
    ∙ ap (λ l. done ++ F l) (sym parts)
    ∙ before
