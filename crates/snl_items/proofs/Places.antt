-- The pieces at the places of tokens are the tokens.
use Rattle.std.proofs.Common.{◌≡◌, ℕ, suc, ◌+◌, ◌-◌, ◌<◌, ◌≤◌, Bool, true, false, cond, List, [], ◌∷◌, ◌++◌, length, map, filter, take, drop, get_or, slice_get, Some, refl, sym, ap, ◌∙◌, arith}
use Rattle.std.specs.List.{AllByRecursion}
use Rattle.std.proofs.lemmas.List.{drop-map, get_or-map, length-map, length-take-le, map_more, take-map, take_more}
use Rattle.std.proofs.lemmas.Option.{slice_get-get_or}
use Rattle.std.proofs.lemmas.List.Elements.{All-from_recursion}
use Rattle.snl_lex.specs.declared.piece.Class.{Class}
use Rattle.snl_lex.specs.declared.piece.Piece.{Piece}
use Rattle.snl_lex.specs.PieceList.{is_token_class, listed_pieces}
use Rattle.snl_lex.specs.Pieces.{is_token}
use Rattle.snl_items.specs.OwnTokens.{tokens_between}
use Rattle.snl_items.specs.Places.{AreAmong, piece_with, pieces_at, token_places}

-- The numbers are one greater where the first is.
places_after : (from : ℕ) (kinds : List Class) → token_places (suc from) kinds ≡ map suc (token_places from kinds)
places_after from [] = refl
places_after from (k ∷ kinds) =
    let rest : token_places (suc (suc from)) kinds ≡ map suc (token_places (suc from) kinds) = places_after (suc from) kinds in
    let step : (t : Bool) → cond t (suc from ∷ token_places (suc (suc from)) kinds) (token_places (suc (suc from)) kinds) ≡ map suc (cond t (from ∷ token_places (suc from) kinds) (token_places (suc from) kinds)) =
    elim [ true ↦ ap (λ (l : List ℕ). suc from ∷ l) rest | false ↦ rest ] in
    step (is_token_class k)

-- So are those of pieces with one more in front of them.
with_first : (begin e : ℕ) (ends : List ℕ) (k : Class) (kinds : List Class) (places : List ℕ) → map (piece_with begin (e ∷ ends) (k ∷ kinds)) (map suc places) ≡ map (piece_with e ends kinds) places
with_first begin e ends k kinds [] = refl
with_first begin e ends k kinds (n ∷ places) = ap (λ (l : List Piece). piece_with e ends kinds n ∷ l) (with_first begin e ends k kinds places)

tokens_listed : (begin : ℕ) (ends : List ℕ) (kinds : List Class) → length ends ≡ length kinds → map (piece_with begin ends kinds) (token_places 0 kinds) ≡ filter is_token (listed_pieces begin ends kinds)
tokens_listed begin [] [] same = refl
tokens_listed begin [] (k ∷ kinds) same = absurd (omega arith)
tokens_listed begin (e ∷ ends) [] same = refl
tokens_listed begin (e ∷ ends) (k ∷ kinds) same =
    let p : Piece = record { kind = k; start = begin; len = e - begin } in
    let rest : map (piece_with begin (e ∷ ends) (k ∷ kinds)) (token_places 1 kinds) ≡ filter is_token (listed_pieces e ends kinds) =
    ap (map (piece_with begin (e ∷ ends) (k ∷ kinds))) (places_after 0 kinds) ∙ with_first begin e ends k kinds (token_places 0 kinds) ∙ tokens_listed e ends kinds (omega arith) in
    let step : (t : Bool) → map (piece_with begin (e ∷ ends) (k ∷ kinds)) (cond t (0 ∷ token_places 1 kinds) (token_places 1 kinds)) ≡ cond t (p ∷ filter is_token (listed_pieces e ends kinds)) (filter is_token (listed_pieces e ends kinds)) =
    elim [ true ↦ ap (λ (l : List Piece). p ∷ l) rest | false ↦ rest ] in
    step (is_token_class k)

-- The pieces at the places of tokens are those among them that are tokens.
pub tokens_at_places : (begin : ℕ) (ends : List ℕ) (kinds : List Class) → length ends ≡ length kinds → pieces_at begin ends kinds (token_places 0 kinds) ≡ filter is_token (listed_pieces begin ends kinds)
unfolding pieces_at
tokens_at_places begin ends kinds same = tokens_listed begin ends kinds same

among_from : (from count : ℕ) (kinds : List Class) → from + length kinds ≤ count → AllByRecursion (λ n. n < count) (token_places from kinds)
among_from from count [] le = tt
among_from from count (k ∷ kinds) le =
    let here : from < count = omega arith in
    let rest : AllByRecursion (λ n. n < count) (token_places (suc from) kinds) = among_from (suc from) count kinds (omega arith) in
    let step : (t : Bool) → AllByRecursion (λ n. n < count) (cond t (from ∷ token_places (suc from) kinds) (token_places (suc from) kinds)) =
    elim [ true ↦ (here, rest) | false ↦ rest ] in
    step (is_token_class k)

pub among_all : (kinds : List Class) → AreAmong (length kinds) (token_places 0 kinds)
among_all kinds = All-from_recursion (λ n. n < length kinds) (token_places 0 kinds) (among_from 0 (length kinds) kinds (omega arith))

-- One piece more.
place_pushed : (from : ℕ) (kinds : List Class) (k : Class) → token_places from (kinds ++ k ∷ []) ≡ token_places from kinds ++ cond (is_token_class k) ((from + length kinds) ∷ []) []
place_pushed from [] k = let here : from ≡ from + 0 = omega arith in ap (λ (n : ℕ). cond (is_token_class k) (n ∷ []) []) here
place_pushed from (x ∷ kinds) k =
    let there : suc from + length kinds ≡ from + suc (length kinds) = omega arith in
    let last : List ℕ = cond (is_token_class k) ((from + suc (length kinds)) ∷ []) [] in
    let rest : token_places (suc from) (kinds ++ k ∷ []) ≡ token_places (suc from) kinds ++ last =
    place_pushed (suc from) kinds k ∙ ap (λ (n : ℕ). token_places (suc from) kinds ++ cond (is_token_class k) (n ∷ []) []) there in
    let step : (t : Bool) → cond t (from ∷ token_places (suc from) (kinds ++ k ∷ [])) (token_places (suc from) (kinds ++ k ∷ [])) ≡ cond t (from ∷ token_places (suc from) kinds) (token_places (suc from) kinds) ++ last =
    elim [ true ↦ ap (λ (l : List ℕ). from ∷ l) rest | false ↦ rest ] in
    step (is_token_class x)

pub place_more : (kinds : List Class) (n : ℕ) (k : Class) → n < length kinds → token_places 0 (take (n + 1) kinds) ≡ token_places 0 (take n kinds) ++ cond (is_token_class (get_or kinds n k)) (n ∷ []) []
place_more kinds n k lt =
    ap (token_places 0) (take_more kinds n k lt) ∙ place_pushed 0 (take n kinds) (get_or kinds n k)
    ∙ (let there : 0 + length (take n kinds) ≡ n = omega (arith, length-take-le n kinds (omega arith)) in ap (λ (m : ℕ). token_places 0 (take n kinds) ++ cond (is_token_class (get_or kinds n k)) (m ∷ []) []) there)

-- The piece with a number among those at places.
pub piece_read : (begin : ℕ) (ends : List ℕ) (kinds : List Class) (places : List ℕ) (n : ℕ) → n < length places → slice_get (pieces_at begin ends kinds places) n ≡ Some (piece_with begin ends kinds (get_or places n 0))
unfolding pieces_at
piece_read begin ends kinds places n lt =
    let p : Piece = piece_with begin ends kinds 0 in
    slice_get-get_or (map (piece_with begin ends kinds) places) n p (omega (arith, length-map places (piece_with begin ends kinds)))
    ∙ ap Some (get_or-map (piece_with begin ends kinds) places n 0 p lt)

pub pieces_counted : (begin : ℕ) (ends : List ℕ) (kinds : List Class) (places : List ℕ) → length (pieces_at begin ends kinds places) ≡ length places
unfolding pieces_at
pieces_counted begin ends kinds places = length-map places (piece_with begin ends kinds)

-- One place more, and the pieces at some of the places.
pub piece_more : (begin : ℕ) (ends : List ℕ) (kinds : List Class) (places : List ℕ) (n d : ℕ) → n < length places
    → pieces_at begin ends kinds (take (n + 1) places) ≡ pieces_at begin ends kinds (take n places) ++ piece_with begin ends kinds (get_or places n d) ∷ []
unfolding pieces_at
piece_more begin ends kinds places n d lt = map_more (piece_with begin ends kinds) places n d lt

pub pieces_among : (begin : ℕ) (ends : List ℕ) (kinds : List Class) (places : List ℕ) (start stop : ℕ)
    → pieces_at begin ends kinds (take (stop - start) (drop start places)) ≡ tokens_between (pieces_at begin ends kinds places) start stop
unfolding pieces_at
pieces_among begin ends kinds places start stop =
    sym (ap (take (stop - start)) (drop-map (piece_with begin ends kinds) start places) ∙ take-map (piece_with begin ends kinds) (stop - start) (drop start places))

pub none_at : (begin : ℕ) (ends : List ℕ) (kinds : List Class) → pieces_at begin ends kinds [] ≡ []
unfolding pieces_at
none_at begin ends kinds = refl
