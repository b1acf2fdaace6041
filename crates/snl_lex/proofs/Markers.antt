-- Line markers: where their file is, and the last of those that count.
use Rattle.std.proofs.Common.{◌≡◌, ◌==◌, ℕ, ◌+◌, ◌<◌, Bool, true, false, ◌&&◌, cond, List, [], ◌∷◌, ◌++◌, length, take, drop, get_or, Option, Some, None, filter, refl, sym, ap, ◌∙◌, subst, arith}
use Rattle.std.specs.Prelude.{slice_index}
use Rattle.std.proofs.lemmas.List.{take_more}
use Rattle.std.proofs.lemmas.Bool.Decides.{nat_tests}
use Rattle.snl_lex.specs.declared.piece.Piece.{Piece}
use Rattle.snl_lex.specs.Alphabet.{is_digit, is_gap}
use Rattle.snl_lex.specs.Runs.{run_of, run_by}
use Rattle.snl_lex.specs.Lines.{gap_end, number_place, number_stop, marker_file, last_or, last_that}
use Rattle.snl_lex.specs.Pieces.{LiesIn, string_joins, pieces_of}
use Rattle.snl_lex.proofs.Members.{leads_inside, pieces_lead}

abbrev pub file_with : List ℕ → ℕ → ℕ → Option (ℕ × ℕ)
file_with marker quote count = cond (slice_index marker quote == 34 && slice_index marker (quote + 1 + count) == 34) (Some (quote + 1, count)) None

pub quote_is : (marker : List ℕ) (place stop quote : ℕ) → place ≡ number_place marker → stop ≡ place + run_of is_digit (drop place marker) → quote ≡ stop + run_of is_gap (drop stop marker)
    → quote ≡ gap_end marker (number_stop marker)
quote_is marker place stop quote p s q = q ∙ ap (gap_end marker) (s ∙ ap (λ (n : ℕ). n + run_of is_digit (drop n marker)) p)

pub file_is : (marker : List ℕ) (quote : ℕ) → quote ≡ gap_end marker (number_stop marker) → marker_file marker ≡ file_with marker quote (run_by (string_joins 34) [] (drop 1 (drop quote marker)))
unfolding marker_file
file_is marker quote e = ap (λ (q : ℕ). file_with marker q (run_by (string_joins 34) [] (drop 1 (drop q marker)))) (sym e)

pub no_quote : (marker : List ℕ) (quote count : ℕ) → (slice_index marker quote ≡ 34 → ⊥) → file_with marker quote count ≡ None
no_quote marker quote count h = grind (arith, nat_tests)

pub no_close : (marker : List ℕ) (quote count : ℕ) → (slice_index marker (quote + 1 + count) ≡ 34 → ⊥) → file_with marker quote count ≡ None
no_close marker quote count h = grind (arith, nat_tests)

pub closed : (marker : List ℕ) (quote count : ℕ) → slice_index marker quote ≡ 34 → slice_index marker (quote + 1 + count) ≡ 34 → file_with marker quote count ≡ Some (quote + 1, count)
closed marker quote count h k = grind (arith, nat_tests)

last_push : (passes : Piece → Bool) (found : Option Piece) (xs : List Piece) (x : Piece) → last_or found (filter passes (xs ++ x ∷ [])) ≡ cond (passes x) (Some x) (last_or found (filter passes xs))
last_push passes found [] x = elim (passes x) as (λ b. last_or found (cond b (x ∷ []) []) ≡ cond b (Some x) found) [ true ↦ refl | false ↦ refl ]
last_push passes found (y ∷ ys) x =
    let P : Bool → Type 0 = λ (b : Bool). last_or found (cond b (y ∷ filter passes (ys ++ x ∷ [])) (filter passes (ys ++ x ∷ []))) ≡ cond (passes x) (Some x) (last_or found (cond b (y ∷ filter passes ys) (filter passes ys))) in
    elim (passes y) as P [ true ↦ last_push passes (Some y) ys x | false ↦ last_push passes found ys x ]

-- One piece more.
pub last_more : (passes : Piece → Bool) (ps : List Piece) (i : ℕ) (d : Piece) → i < length ps
    → last_that passes (take (i + 1) ps) ≡ cond (passes (get_or ps i d)) (Some (get_or ps i d)) (last_that passes (take i ps))
last_more passes ps i d lt = ap (last_that passes) (take_more ps i d lt) ∙ last_push passes None (take i ps) (get_or ps i d)

pub piece_lies : (text : List ℕ) (ps : List Piece) → ps ≡ pieces_of text → (k : ℕ) (d : Piece) → k < length ps → LiesIn text (get_or ps k d)
piece_lies text ps e = subst (λ (l : List Piece). (k : ℕ) (d : Piece) → k < length l → LiesIn text (get_or l k d)) (sym e) (leads_inside text 0 (pieces_of text) (length text) (pieces_lead text))
