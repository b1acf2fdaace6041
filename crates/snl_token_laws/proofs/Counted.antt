-- Line ends between places, and the last of the pieces that pass a test.
use Rattle.std.proofs.Common.{◌≡◌, ◌==◌, ℕ, suc, ◌+◌, ◌-◌, ◌<◌, ◌≤◌, Bool, true, false, ◌&&◌, ◌||◌, cond, nat_lt, List, [], ◌∷◌, ◌++◌, length, take, drop, count_by, filter, get_or, Option, Some, is_some, refl, sym, ap, ap₂, ◌∙◌, subst, arith, inl, inr, drop-cons}
use Rattle.std.specs.Prelude.{All, IfSome, slice_index}
use Rattle.std.specs.List.{list_any}
use Rattle.std.proofs.lemmas.Bool.{and_left, cases_Bool, cases_lt, eq-eqb, lt-ltb, ltb-true}
use Rattle.std.proofs.lemmas.List.{drop-drop, drop-take, take-take, take-append-drop}
use Rattle.std.proofs.lemmas.List.Sums.{sum_by-append, sum_by-cons}
use Rattle.snl_lex.specs.declared.piece.Piece.{Piece}
use Rattle.snl_lex.specs.LineList.{numbers}
use Rattle.snl_lex.specs.Lines.{has_line_between, last_or, lines_between, marker_file, names_file, part_of, sets_line}
use Rattle.snl_lex.specs.Pieces.{bytes_at, piece_end}
use Rattle.snl_lex.specs.LineLaws.{part_split, sets_is}
use Rattle.snl_facts.specs.Counts.{any_counted}

-- ---- line ends

abbrev pub ends_line : ℕ → Bool
ends_line b = b == 10

pub count_none : (text : List ℕ) (a b : ℕ) → b ≤ a → lines_between text a b ≡ 0
count_none text a b h = let none : b - a ≡ 0 = omega arith in ap (λ (n : ℕ). count_by ends_line (take n (drop a text))) none

pub count_one : (text : List ℕ) (at : ℕ) → at < length text → slice_index text at ≡ 10 → lines_between text at (at + 1) ≡ 1
count_one text at lt end =
    let one : (at + 1) - at ≡ 1 = omega arith in
    let here : drop at text ≡ get_or text at 0 ∷ drop (suc at) text = drop-cons text at 0 lt in
    let tested : ends_line (get_or text at 0) ≡ true = eq-eqb (get_or text at 0) 10 end in
    ap (λ (n : ℕ). count_by ends_line (take n (drop at text))) one
    ∙ ap (λ (l : List ℕ). count_by ends_line (take 1 l)) here
    ∙ ap (λ (b : Bool). 0 + cond b 1 0) tested

pub has_counted : (text : List ℕ) (a b : ℕ) → has_line_between text a b ≡ nat_lt 0 (lines_between text a b)
has_counted text a b = any_counted ends_line (part_of text a b)

pub has_none : (text : List ℕ) (a b : ℕ) → lines_between text a b ≡ 0 → has_line_between text a b ≡ false
has_none text a b h = has_counted text a b ∙ ap (nat_lt 0) h

pub has_some : (text : List ℕ) (a b : ℕ) → 0 < lines_between text a b → has_line_between text a b ≡ true
has_some text a b h = has_counted text a b ∙ lt-ltb 0 (lines_between text a b) h

pub counted_if : (text : List ℕ) (a b : ℕ) → has_line_between text a b ≡ true → 0 < lines_between text a b
counted_if text a b h = ltb-true 0 (lines_between text a b) (sym (has_counted text a b) ∙ h)

-- A line ends between two places only if the first is before the second.
pub ordered_if : (text : List ℕ) (a b : ℕ) → 0 < lines_between text a b → a < b
ordered_if text a b h =
    elim (cases_lt a b) [ inl less ↦ less | inr more ↦ absurd (omega (arith, h, count_none text a b more)) ]

-- ---- tests of pieces

pub names_is : (text : List ℕ) (o : ℕ) (p : Piece) → names_file text o p ≡ (sets_line text o p && is_some (marker_file (bytes_at text p)))
unfolding names_file
names_is text o p = refl

-- A marker counts for two offsets alike, where a line ends after it before both or before none.
pub sets_same : (text : List ℕ) (a b : ℕ) (p : Piece) → (numbers text p ≡ true → has_line_between text (piece_end p) a ≡ has_line_between text (piece_end p) b) → sets_line text a p ≡ sets_line text b p
sets_same text a b p h =
    elim (cases_Bool (numbers text p)) [
      | inl is ↦ sets_is text a p ∙ (ap (λ (t : Bool). numbers text p && t) (h is) ∙ sym (sets_is text b p))
      | inr is_not ↦
          sets_is text a p ∙ (and_left (numbers text p) (has_line_between text (piece_end p) a) is_not ∙ sym (sets_is text b p ∙ and_left (numbers text p) (has_line_between text (piece_end p) b) is_not))
    ]

pub names_same : (text : List ℕ) (a b : ℕ) (p : Piece) → sets_line text a p ≡ sets_line text b p → names_file text a p ≡ names_file text b p
names_same text a b p h = names_is text a p ∙ (ap (λ (t : Bool). t && is_some (marker_file (bytes_at text p))) h ∙ sym (names_is text b p))

-- ---- the last piece that passes

pub all_first : (P : Piece → Type 0) (p : Piece) (ps : List Piece) → All P (p ∷ ps) → P p
all_first P p ps h = h 0 p (omega arith)

pub all_rest : (P : Piece → Type 0) (p : Piece) (ps : List Piece) → All P (p ∷ ps) → All P ps
all_rest P p ps h = λ k d lt. h (suc k) d (omega arith)

pub filter_same : (p q : Piece → Bool) (ps : List Piece) → All (λ x. p x ≡ q x) ps → filter p ps ≡ filter q ps
filter_same p q [] h = refl
filter_same p q (x ∷ xs) h =
    ap₂ (λ (b : Bool) (l : List Piece). cond b (x ∷ l) l) (all_first (λ y. p y ≡ q y) x xs h) (filter_same p q xs (all_rest (λ y. p y ≡ q y) x xs h))

pub last_passes : (passes : Piece → Bool) (ps : List Piece) (found : Option Piece) → IfSome found (λ p. passes p ≡ true) → IfSome (last_or found (filter passes ps)) (λ p. passes p ≡ true)
last_passes passes [] found h = h
last_passes passes (p ∷ ps) found h =
    let G : Bool → Type 0 = λ (b : Bool). IfSome (last_or found (cond b (p ∷ filter passes ps) (filter passes ps))) (λ q. passes q ≡ true) in
    elim (cases_Bool (passes p)) [
      | inl is ↦ subst G (sym is) (last_passes passes ps (Some p) is)
      | inr is_not ↦ subst G (sym is_not) (last_passes passes ps found h)
    ]
