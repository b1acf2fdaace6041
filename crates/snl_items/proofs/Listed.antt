-- Pieces that are listed by their ends and classes, one more at a time.
use Rattle.std.proofs.Common.{◌≡◌, ℕ, zero, suc, ◌+◌, ◌<◌, Bool, true, false, cond, List, [], ◌∷◌, ◌++◌, length, filter, count_by, drop, take, get_or, refl, sym, ap, ◌∙◌, arith}
use Rattle.std.proofs.lemmas.List.{take-append-drop, take_more}
use Rattle.std.proofs.lemmas.List.Sums.{sum_by-append}
use Rattle.std.proofs.lemmas.List.Elements.{filter-append}
use Rattle.snl_lex.specs.declared.piece.Class.{Class}
use Rattle.snl_lex.specs.declared.piece.Class.TheVariants.{White}
use Rattle.snl_lex.specs.declared.piece.Piece.{Piece}
use Rattle.snl_lex.specs.PieceList.{is_token_class, listed_pieces}
use Rattle.snl_lex.specs.Pieces.{is_token}
use Rattle.snl_items.specs.Places.{piece_with}

-- How much a piece counts, if this says whether it is a token.
weight : Bool → ℕ
weight t = cond t 1 0

counted_more : (kinds : List Class) (n : ℕ) (k : Class) → n < length kinds → count_by is_token_class (take (n + 1) kinds) ≡ count_by is_token_class (take n kinds) + weight (is_token_class (get_or kinds n k))
unfolding weight
counted_more kinds n k lt =
    let last : Class = get_or kinds n k in
    let one : (t : Bool) → 0 + cond t 1 0 ≡ weight t = elim [ true ↦ refl | false ↦ refl ] in
    ap (count_by is_token_class) (take_more kinds n k lt)
    ∙ sum_by-append (λ x. cond (is_token_class x) 1 0) (take n kinds) (last ∷ [])
    ∙ ap (λ (m : ℕ). count_by is_token_class (take n kinds) + m) (one (is_token_class last))

one_more : (t : Bool) → t ≡ true → weight t ≡ 1
unfolding weight
one_more t is = ap weight is

none_more : (t : Bool) → t ≡ false → weight t ≡ 0
unfolding weight
none_more t is = ap weight is

-- With a token there is one more, and with another piece there isn't.
pub counted_token : (kinds : List Class) (n : ℕ) (k : Class) → n < length kinds → is_token_class (get_or kinds n k) ≡ true → count_by is_token_class (take (n + 1) kinds) ≡ count_by is_token_class (take n kinds) + 1
counted_token kinds n k lt is = omega (arith, counted_more kinds n k lt, one_more (is_token_class (get_or kinds n k)) is)

pub counted_other : (kinds : List Class) (n : ℕ) (k : Class) → n < length kinds → is_token_class (get_or kinds n k) ≡ false → count_by is_token_class (take (n + 1) kinds) ≡ count_by is_token_class (take n kinds)
counted_other kinds n k lt is = omega (arith, counted_more kinds n k lt, none_more (is_token_class (get_or kinds n k)) is)

-- Among all are more tokens than in front of one.
pub counted_less : (kinds : List Class) (n : ℕ) (k : Class) → n < length kinds → is_token_class (get_or kinds n k) ≡ true → count_by is_token_class (take n kinds) < count_by is_token_class kinds
counted_less kinds n k lt is =
    let parts = sum_by-append (λ x. cond (is_token_class x) 1 0) (take (n + 1) kinds) (drop (n + 1) kinds) in
    let whole : count_by is_token_class kinds ≡ count_by is_token_class (take (n + 1) kinds) + count_by is_token_class (drop (n + 1) kinds) = ap (count_by is_token_class) (sym (take-append-drop (n + 1) kinds)) ∙ parts in
    omega (arith, whole, counted_token kinds n k lt is)

pub listed_length : (begin : ℕ) (ends : List ℕ) (kinds : List Class) → length ends ≡ length kinds → length (listed_pieces begin ends kinds) ≡ length kinds
listed_length begin [] [] same = refl
listed_length begin [] (k ∷ kinds) same = absurd (omega arith)
listed_length begin (e ∷ ends) [] same = absurd (omega arith)
listed_length begin (e ∷ ends) (k ∷ kinds) same = ap suc (listed_length e ends kinds (omega arith))

pub listed_at : (begin : ℕ) (ends : List ℕ) (kinds : List Class) (n : ℕ) (d : Piece) → length ends ≡ length kinds → n < length kinds → get_or (listed_pieces begin ends kinds) n d ≡ piece_with begin ends kinds n
listed_at begin [] [] n d same lt = absurd (omega arith)
listed_at begin [] (k ∷ kinds) n d same lt = absurd (omega arith)
listed_at begin (e ∷ ends) [] n d same lt = absurd (omega arith)
listed_at begin (e ∷ ends) (k ∷ kinds) zero d same lt = refl
listed_at begin (e ∷ ends) (k ∷ kinds) (suc n) d same lt = listed_at e ends kinds n d (omega arith) (omega arith)

-- The tokens of one piece more.
pub told_more : (begin : ℕ) (ends : List ℕ) (kinds : List Class) (n : ℕ) → length ends ≡ length kinds → n < length kinds
    → filter is_token (take (n + 1) (listed_pieces begin ends kinds)) ≡ filter is_token (take n (listed_pieces begin ends kinds)) ++ cond (is_token_class (get_or kinds n White)) (piece_with begin ends kinds n ∷ []) []
told_more begin ends kinds n same lt =
    let ps : List Piece = listed_pieces begin ends kinds in
    let p : Piece = piece_with begin ends kinds n in
    ap (filter is_token) (take_more ps n p (omega (arith, listed_length begin ends kinds same)) ∙ ap (λ (q : Piece). take n ps ++ q ∷ []) (listed_at begin ends kinds n p same lt))
    ∙ filter-append is_token (take n ps) (p ∷ [])
