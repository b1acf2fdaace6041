-- The pieces of a text as members of its cut.
use Rattle.std.proofs.Common.{◌≡◌, ℕ, zero, suc, ◌+◌, ◌<◌, ◌≤◌, inl, inr, List, [], ◌∷◌, ◌++◌, length, drop, take, map, get_or, refl, sym, ap, ◌∙◌, subst, arith, length-drop}
use Rattle.std.proofs.lemmas.Bool.Decides.{nat_tests}
use Rattle.snl_cut.specs.Cut.{Walks, last_end}
use Rattle.snl_lex.specs.declared.piece.Piece.{Piece}
use Rattle.snl_lex.specs.Pieces.{piece_length, piece_at, piece_end, pieces_from, pieces_of, pieces_along, LiesIn}
use Rattle.snl_lex.specs.Local.{piece_front}
use Rattle.std.proofs.lemmas.Bool.{cases_lt}

-- The pieces follow one another between the two places.
abbrev pub Leads : List ℕ → ℕ → List Piece → ℕ → Type 0
Leads text from [] to = from ≡ to
Leads text from (p ∷ ps) to = (from < length text) × (p ≡ piece_at text from) × Leads text (from + piece_length (drop from text)) ps to

-- A piece has a byte at least, and ends in the text.
pub some_piece : (text : List ℕ) (at : ℕ) → at < length text → (1 ≤ piece_length (drop at text)) × (at + piece_length (drop at text) ≤ length text)
some_piece text at lt =
    let fits = piece_front (drop at text) (omega (arith, length-drop at text)) in
    (fits.0, omega (arith, fits.1, length-drop at text))

more : (text : List ℕ) (at most : ℕ) → at < length text → pieces_from text at (suc most) ≡ piece_at text at ∷ pieces_from text (at + piece_length (drop at text)) most
more text at most lt = grind (arith, nat_tests)

none : (text : List ℕ) (at most : ℕ) → length text ≤ at → pieces_from text at (suc most) ≡ []
none text at most le = grind (arith, nat_tests)

-- Pieces that lead to the end are all.
pub leads_all : (text : List ℕ) (from most : ℕ) (ps : List Piece) → Leads text from ps (length text) → length text ≤ from + most → pieces_from text from most ≡ ps
leads_all text from zero [] h le = refl
leads_all text from (suc most) [] h le = none text from most (omega (arith, h))
leads_all text from zero (p ∷ ps) h le = absurd (omega (arith, h.0))
leads_all text from (suc most) (p ∷ ps) h le =
    let fits = some_piece text from h.0 in
    let rest = leads_all text (from + piece_length (drop from text)) most ps h.2 (omega (arith, fits.0)) in
    more text from most h.0 ∙ (ap (λ (q : Piece). q ∷ pieces_from text (from + piece_length (drop from text)) most) (sym h.1) ∙ ap (λ (l : List Piece). p ∷ l) rest)

pub all_lead : (text : List ℕ) (from most : ℕ) → from ≤ length text → length text ≤ from + most → Leads text from (pieces_from text from most) (length text)
all_lead text from zero inside enough = omega arith
all_lead text from (suc most) inside enough =
    elim (cases_lt from (length text)) [
      | inl less ↦
          let fits = some_piece text from less in
          subst (λ (l : List Piece). Leads text from l (length text)) (sym (more text from most less)) (less, refl, all_lead text (from + piece_length (drop from text)) most fits.1 (omega (arith, fits.0)))
      | inr over ↦ let at_end : from ≡ length text = omega arith in subst (λ (l : List Piece). Leads text from l (length text)) (sym (none text from most over)) at_end
    ]

pub pieces_lead : (text : List ℕ) → Leads text 0 (pieces_of text) (length text)
unfolding pieces_of
pieces_lead text = all_lead text 0 (length text) (omega arith) (omega arith)

pub leads_pieces : (text : List ℕ) (ps : List Piece) → Leads text 0 ps (length text) → ps ≡ pieces_of text
unfolding pieces_of
leads_pieces text ps h = sym (leads_all text 0 (length text) ps h (omega arith))

pub leads_on : (text : List ℕ) (from : ℕ) (ps : List Piece) (at : ℕ) → Leads text from ps at → at < length text → Leads text from (ps ++ piece_at text at ∷ []) (at + piece_length (drop at text))
leads_on text from [] at h lt = subst (λ (n : ℕ). Leads text n (piece_at text at ∷ []) (at + piece_length (drop at text))) (sym h) (lt, refl, refl)
leads_on text from (p ∷ ps) at h lt = (h.0, h.1, leads_on text (from + piece_length (drop from text)) ps at h.2 lt)

pub end_at : (text : List ℕ) (at : ℕ) → piece_end (piece_at text at) ≡ at + piece_length (drop at text)
unfolding piece_at
end_at text at = refl

-- The ends of the pieces are those of the members.
pub leads_walk : (text : List ℕ) (from : ℕ) (ps : List Piece) (to : ℕ) → Leads text from ps to → Walks piece_length text from (map piece_end ps) to
leads_walk text from [] to h = h
leads_walk text from (p ∷ ps) to h =
    let e : piece_end p ≡ from + piece_length (drop from text) = ap piece_end h.1 ∙ end_at text from in
    (h.0, e, subst (λ (n : ℕ). Walks piece_length text n (map piece_end ps) to) (sym e) (leads_walk text (from + piece_length (drop from text)) ps to h.2))

pub leads_along : (text : List ℕ) (from : ℕ) (ps : List Piece) (to : ℕ) → Leads text from ps to → pieces_along text from (map piece_end ps) ≡ ps
leads_along text from [] to h = refl
leads_along text from (p ∷ ps) to h =
    let e : piece_end p ≡ from + piece_length (drop from text) = ap piece_end h.1 ∙ end_at text from in
    let rest : pieces_along text (piece_end p) (map piece_end ps) ≡ ps =
    ap (λ (n : ℕ). pieces_along text n (map piece_end ps)) e ∙ leads_along text (from + piece_length (drop from text)) ps to h.2
    in
    ap (λ (q : Piece). q ∷ pieces_along text (piece_end p) (map piece_end ps)) (sym h.1) ∙ ap (λ (l : List Piece). p ∷ l) rest

-- Members make pieces.
pub walk_leads : (text : List ℕ) (from : ℕ) (es : List ℕ) (to : ℕ) → Walks piece_length text from es to → Leads text from (pieces_along text from es) to
walk_leads text from [] to h = h
walk_leads text from (e ∷ es) to h = (h.0, refl, subst (λ (n : ℕ). Leads text n (pieces_along text e es) to) h.1 (walk_leads text e es to h.2))

pub along_ends : (text : List ℕ) (from : ℕ) (es : List ℕ) (to : ℕ) → Walks piece_length text from es to → map piece_end (pieces_along text from es) ≡ es
along_ends text from [] to h = refl
along_ends text from (e ∷ es) to h =
    let head : piece_end (piece_at text from) ≡ e = end_at text from ∙ sym h.1 in
    let tail : map piece_end (pieces_along text e es) ≡ es = along_ends text e es to h.2 in
    ap (λ (n : ℕ). n ∷ map piece_end (pieces_along text e es)) head ∙ ap (λ (l : List ℕ). e ∷ l) tail

pub along_append : (text : List ℕ) (from : ℕ) (xs ys : List ℕ) → pieces_along text from (xs ++ ys) ≡ pieces_along text from xs ++ pieces_along text (last_end from xs) ys
along_append text from [] ys = refl
along_append text from (e ∷ xs) ys = ap (λ (l : List Piece). piece_at text from ∷ l) (along_append text e xs ys)

pub along_take : (text : List ℕ) (from k : ℕ) (es : List ℕ) → take k (pieces_along text from es) ≡ pieces_along text from (take k es)
along_take text from zero es = refl
along_take text from (suc k) [] = refl
along_take text from (suc k) (e ∷ es) = ap (λ (l : List Piece). piece_at text from ∷ l) (along_take text e k es)

pub along_drop : (text : List ℕ) (from k : ℕ) (es : List ℕ) → drop k (pieces_along text from es) ≡ pieces_along text (last_end from (take k es)) (drop k es)
along_drop text from zero es = refl
along_drop text from (suc k) [] = refl
along_drop text from (suc k) (e ∷ es) = along_drop text e k es

pub along_length : (text : List ℕ) (from : ℕ) (es : List ℕ) → length (pieces_along text from es) ≡ length es
along_length text from [] = refl
along_length text from (e ∷ es) = ap suc (along_length text e es)

-- Walks.
pub walk_le : (text : List ℕ) (from : ℕ) (xs : List ℕ) (to : ℕ) → Walks piece_length text from xs to → from ≤ to
walk_le text from [] to h = omega (arith, h)
walk_le text from (e ∷ es) to h = omega (arith, h.1, walk_le text e es to h.2)

pub walk_last : (text : List ℕ) (from : ℕ) (xs : List ℕ) (to : ℕ) → Walks piece_length text from xs to → last_end from xs ≡ to
walk_last text from [] to h = h
walk_last text from (e ∷ es) to h = walk_last text e es to h.2

pub walk_front : (text : List ℕ) (from : ℕ) (xs ys : List ℕ) (to : ℕ) → Walks piece_length text from (xs ++ ys) to → Walks piece_length text from xs (last_end from xs)
walk_front text from [] ys to h = refl
walk_front text from (e ∷ xs) ys to h = (h.0, h.1, walk_front text e xs ys to h.2)

pub walk_back : (text : List ℕ) (from : ℕ) (xs ys : List ℕ) (to : ℕ) → Walks piece_length text from (xs ++ ys) to → Walks piece_length text (last_end from xs) ys to
walk_back text from [] ys to h = h
walk_back text from (e ∷ xs) ys to h = walk_back text e xs ys to h.2

pub last_push : (from : ℕ) (xs : List ℕ) (e : ℕ) → last_end from (xs ++ e ∷ []) ≡ e
last_push from [] e = refl
last_push from (x ∷ xs) e = last_push x xs e

pub last_append : (from : ℕ) (xs ys : List ℕ) → last_end from (xs ++ ys) ≡ last_end (last_end from xs) ys
last_append from [] ys = refl
last_append from (x ∷ xs) ys = last_append x xs ys

-- Each piece lies in the text.
piece_lies : (text : List ℕ) (at : ℕ) → at < length text → LiesIn text (piece_at text at)
unfolding piece_at
piece_lies text at lt = some_piece text at lt

pub leads_inside : (text : List ℕ) (from : ℕ) (ps : List Piece) (to : ℕ) → Leads text from ps to → (k : ℕ) (d : Piece) → k < length ps → LiesIn text (get_or ps k d)
leads_inside text from [] to h k d lt = absurd (omega arith)
leads_inside text from (p ∷ ps) to h zero d lt = subst (LiesIn text) (sym h.1) (piece_lies text from h.0)
leads_inside text from (p ∷ ps) to h (suc k) d lt = leads_inside text (from + piece_length (drop from text)) ps to h.2 k d (omega arith)
