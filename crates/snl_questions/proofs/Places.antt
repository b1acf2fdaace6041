-- The first token that has a byte, item by item.
use Rattle.std.proofs.Common.{◌≡◌, ℕ, zero, suc, ◌+◌, List, [], ◌∷◌, drop, position, slice_get, Option, Some, None, refl, ap, ◌∙◌, arith}
use Rattle.snl_facts.specs.Lists.{drop_got}
use Rattle.snl_lex.specs.declared.piece.Piece.{Piece}
use Rattle.snl_questions.specs.Tokens.{has_byte}
use Rattle.snl_questions.specs.Meanings.{place_by, place_from}

-- the items from number i on, of which the first has these tokens
at_item : (offset i : ℕ) (xs : List (List Piece)) (x : List Piece) → slice_get xs i ≡ Some x →
    place_from offset i (drop i xs) ≡
    place_by i (position (has_byte offset) x) (place_from offset (i + 1) (drop (suc i) xs))
at_item offset i xs x at = ap (place_from offset i) (drop_got xs i x at)

pub found_here : (offset i n : ℕ) (xs : List (List Piece)) (x : List Piece) →
    slice_get xs i ≡ Some x →
    position (has_byte offset) x ≡ Some n →
    place_from offset i (drop i xs) ≡ Some (record { item = i; token = n })
found_here offset i n xs x at hit =
    at_item offset i xs x at
    ∙ ap (λ (o : Option ℕ). place_by i o (place_from offset (i + 1) (drop (suc i) xs))) hit

pub found_later : (offset i : ℕ) (xs : List (List Piece)) (x : List Piece) →
    slice_get xs i ≡ Some x →
    position (has_byte offset) x ≡ None →
    place_from offset i (drop i xs) ≡ place_from offset (i + 1) (drop (i + 1) xs)
found_later offset i xs x at missed =
    let one : suc i ≡ i + 1 = omega arith in
    at_item offset i xs x at
    ∙ ap (λ (o : Option ℕ). place_by i o (place_from offset (i + 1) (drop (suc i) xs))) missed
    ∙ ap (λ (k : ℕ). place_from offset (i + 1) (drop k xs)) one

-- nothing is found after the last item
pub found_nowhere : (offset i : ℕ) (xs : List (List Piece)) → drop i xs ≡ [] →
    place_from offset i (drop i xs) ≡ None
found_nowhere offset i xs none = ap (place_from offset i) none

-- no item is left
pub none_left : {X : Type 0} (xs : List X) (i : ℕ) → slice_get xs i ≡ None → drop i xs ≡ []
none_left [] zero none = refl
none_left [] (suc i) none = refl
none_left (x ∷ xs) zero none = absurd cc
none_left (x ∷ xs) (suc i) none = none_left xs i none
