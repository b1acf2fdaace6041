-- The pieces of a text, as two lists say them.
use Rattle.std.proofs.Common.{◌≡◌, ℕ, zero, suc, ◌+◌, ◌-◌, ◌<◌, ◌≤◌, List, [], ◌∷◌, ◌++◌, length, take, drop, map, filter, get_or, refl, sym, ap, ap₂, ◌∙◌, subst, arith}
use Rattle.std.proofs.lemmas.List.{take_all, take_more, get_or-drop, length-drop}
use Rattle.snl_cut.specs.Cut.{Walks, last_end, notes_along}
use Rattle.snl_lex.specs.declared.piece.Class.{Class}
use Rattle.snl_lex.specs.declared.piece.Piece.{Piece}
use Rattle.snl_lex.specs.PieceList.{listed_pieces, piece_ends, piece_kinds, pieces_between}
use Rattle.snl_lex.specs.Pieces.{is_token, piece_at, piece_class, piece_end, piece_length, pieces_along, pieces_of}
use Rattle.snl_lex.proofs.Members.{Leads, end_at, pieces_lead}

-- A piece of a text by its end.
by_end : (text : List ℕ) (from : ℕ) (p : Piece) → p ≡ piece_at text from → record { kind = p.kind; start = from; len = piece_end p - from } ≡ p
unfolding piece_at
by_end text from p e =
    let starts : p.start ≡ from = ap (λ (q : Piece). q.start) e in
    let long : piece_end p - from ≡ p.len = omega arith in
    ap₂ (λ (s n : ℕ). let q : Piece = record { kind = p.kind; start = s; len = n } in q) (sym starts) long

listed : (text : List ℕ) (from : ℕ) (ps : List Piece) (to : ℕ) → Leads text from ps to → listed_pieces from (map piece_end ps) (map (λ p. p.kind) ps) ≡ ps
listed text from [] to h = refl
listed text from (p ∷ ps) to h =
    let next : piece_end p ≡ from + piece_length (drop from text) = ap piece_end h.1 ∙ end_at text from in
    let rest : listed_pieces (piece_end p) (map piece_end ps) (map (λ q. q.kind) ps) ≡ ps =
    listed text (piece_end p) ps to (subst (λ (n : ℕ). Leads text n ps to) (sym next) h.2) in
    ap₂ (λ (q : Piece) (l : List Piece). q ∷ l) (by_end text from p h.1) rest

-- The lists of a text say its pieces.
pub listed_are : (text ends : List ℕ) (kinds : List Class) → ends ≡ piece_ends text → kinds ≡ piece_kinds text → listed_pieces 0 ends kinds ≡ pieces_of text
listed_are text ends kinds e k =
    ap₂ (λ (es : List ℕ) (ks : List Class). listed_pieces 0 es ks) e k ∙ listed text 0 (pieces_of text) (length text) (pieces_lead text)

pub listed_at : (from : ℕ) (ends : List ℕ) (kinds : List Class) (n : ℕ) (k : Class) (d : Piece) → n < length ends → n < length kinds
    → get_or (listed_pieces from ends kinds) n d ≡ record { kind = get_or kinds n k; start = last_end from (take n ends); len = get_or ends n 0 - last_end from (take n ends) }
listed_at from [] kinds n k d h i = absurd (omega arith)
listed_at from (e ∷ ends) [] n k d h i = absurd (omega arith)
listed_at from (e ∷ ends) (x ∷ kinds) zero k d h i = refl
listed_at from (e ∷ ends) (x ∷ kinds) (suc n) k d h i = listed_at e ends kinds n k d (omega arith) (omega arith)

pub listed_length : (from : ℕ) (ends : List ℕ) (kinds : List Class) (n : ℕ) → n ≤ length ends → n ≤ length kinds → n ≤ length (listed_pieces from ends kinds)
listed_length from ends kinds zero h i = omega arith
listed_length from [] kinds (suc n) h i = absurd (omega arith)
listed_length from (e ∷ ends) [] (suc n) h i = absurd (omega arith)
listed_length from (e ∷ ends) (x ∷ kinds) (suc n) h i = omega (arith, listed_length e ends kinds n (omega arith) (omega arith))

listed_few : (from : ℕ) (ends : List ℕ) (kinds : List Class) → length (listed_pieces from ends kinds) ≤ length ends
listed_few from [] kinds = omega arith
listed_few from (e ∷ ends) [] = omega arith
listed_few from (e ∷ ends) (k ∷ kinds) = omega (arith, listed_few e ends kinds)

-- All pieces that the lists say.
pub between_all : (from : ℕ) (ends : List ℕ) (kinds : List Class) → pieces_between (listed_pieces from ends kinds) 0 (length ends) ≡ listed_pieces from ends kinds
between_all from ends kinds = take_all (length ends - 0) (listed_pieces from ends kinds) (omega (arith, listed_few from ends kinds))

-- The members of a walk and their classes are its pieces.
pub noted_pieces : (text : List ℕ) (from : ℕ) (es : List ℕ) (to : ℕ) → Walks piece_length text from es to → listed_pieces from es (notes_along piece_class text from es) ≡ pieces_along text from es
unfolding piece_at
noted_pieces text from [] to w = refl
noted_pieces text from (e ∷ es) to w =
    let long : e - from ≡ piece_length (drop from text) = omega (arith, w.1) in
    ap₂ (λ (n : ℕ) (l : List Piece). let p : Piece = record { kind = piece_class (drop from text); start = from; len = n } in p ∷ l) long (noted_pieces text e es to w.2)

pub noted_kinds : (text : List ℕ) (from : ℕ) (es : List ℕ) → notes_along piece_class text from es ≡ map (λ p. p.kind) (pieces_along text from es)
unfolding piece_at
noted_kinds text from [] = refl
noted_kinds text from (e ∷ es) = ap (λ (l : List Class). piece_class (drop from text) ∷ l) (noted_kinds text e es)

-- One piece more.
pub between_more : (ps : List Piece) (from n : ℕ) (d : Piece) → from ≤ n → n < length ps
    → pieces_between ps from (n + 1) ≡ pieces_between ps from n ++ get_or ps n d ∷ []
between_more ps from n d le lt =
    let count : (n + 1) - from ≡ (n - from) + 1 = omega arith in
    let there : from + (n - from) ≡ n = omega arith in
    ap (λ (m : ℕ). take m (drop from ps)) count
    ∙ take_more (drop from ps) (n - from) d (omega (arith, length-drop from ps))
    ∙ ap (λ (q : Piece). take (n - from) (drop from ps) ++ q ∷ []) (get_or-drop from ps (n - from) d ∙ ap (λ (m : ℕ). get_or ps m d) there)

pub between_none : (ps : List Piece) (from : ℕ) → pieces_between ps from from ≡ []
between_none ps from = let none : from - from ≡ 0 = omega arith in ap (λ (m : ℕ). take m (drop from ps)) none

same_piece : (k : Class) (s t m n : ℕ) → s ≡ t → m ≡ n → let p : Piece = record { kind = k; start = s; len = m } in let q : Piece = record { kind = k; start = t; len = n } in p ≡ q
same_piece k s t m n h i = ap₂ (λ (a b : ℕ). let p : Piece = record { kind = k; start = a; len = b } in p) h i

-- One piece more, by its end, its class and where it begins.
pub listed_more : (begin : ℕ) (ends : List ℕ) (kinds : List Class) (from n : ℕ) (end : ℕ) (kind : Class) (start : ℕ)
    → from ≤ n → n < length ends → n < length kinds → end ≡ get_or ends n 0 → kind ≡ get_or kinds n kind → start ≡ last_end begin (take n ends)
    → pieces_between (listed_pieces begin ends kinds) from (n + 1) ≡ pieces_between (listed_pieces begin ends kinds) from n ++ record { kind = kind; start = start; len = end - start } ∷ []
listed_more begin ends kinds from n end kind start le lt lt_kinds end_is kind_is start_is =
    let ps : List Piece = listed_pieces begin ends kinds in
    let p : Piece = record { kind = kind; start = start; len = end - start } in
    let first : ℕ = last_end begin (take n ends) in
    let long : get_or ends n 0 - first ≡ end - start = omega arith in
    let there : get_or ps n p ≡ p =
    listed_at begin ends kinds n kind p lt lt_kinds
    ∙ ap (λ (k : Class). let q : Piece = record { kind = k; start = first; len = get_or ends n 0 - first } in q) (sym kind_is)
    ∙ same_piece kind first start (get_or ends n 0 - first) (end - start) (sym start_is) long in
    between_more ps from n p le (listed_length begin ends kinds (suc n) (omega arith) (omega arith)) ∙ ap (λ (q : Piece). pieces_between ps from n ++ q ∷ []) there

-- The piece with a number, by its end, its class and where it begins.
pub listed_piece : (begin : ℕ) (ends : List ℕ) (kinds : List Class) (n end : ℕ) (kind : Class) (start len : ℕ) (d : Piece) → n < length ends → n < length kinds
    → end ≡ get_or ends n 0 → kind ≡ get_or kinds n kind → start ≡ last_end begin (take n ends) → len ≡ end - start
    → get_or (listed_pieces begin ends kinds) n d ≡ record { kind = kind; start = start; len = len }
listed_piece begin ends kinds n end kind start len d lt lt_kinds end_is kind_is start_is len_is =
    let first : ℕ = last_end begin (take n ends) in
    let long : get_or ends n 0 - first ≡ len = omega arith in
    listed_at begin ends kinds n kind d lt lt_kinds
    ∙ ap (λ (k : Class). let q : Piece = record { kind = k; start = first; len = get_or ends n 0 - first } in q) (sym kind_is)
    ∙ same_piece kind first start (get_or ends n 0 - first) len (sym start_is) long

-- All tokens among the pieces that the lists say.
pub listed_all : (from : ℕ) (ends : List ℕ) (kinds : List Class) (n : ℕ) → n ≡ length ends
    → filter is_token (pieces_between (listed_pieces from ends kinds) 0 n) ≡ filter is_token (listed_pieces from ends kinds)
listed_all from ends kinds n all =
    ap (filter is_token) (ap (λ (m : ℕ). pieces_between (listed_pieces from ends kinds) 0 m) all ∙ between_all from ends kinds)
