-- Which pieces, and which tokens, begin before a place.
use Rattle.std.proofs.Common.{◌≡◌, ℕ, zero, suc, ◌+◌, ◌<◌, ◌≤◌, inl, inr, Bool, true, false, cond, min, nat_lt, All, List, [], ◌∷◌, length, filter, count_by, take, drop, get_or, refl, sym, ap, ◌∙◌, subst, arith, length-append}
use Rattle.std.specs.List.{AllByRecursion}
use Rattle.std.specs.List.Sorted.{IsNonDecreasing, IsPartitionPoint}
use Rattle.std.proofs.lemmas.Bool.{cases_lt, le-ltb, lt-ltb}
use Rattle.std.proofs.lemmas.List.{take-append-drop, take_min}
use Rattle.std.proofs.lemmas.List.Elements.{All-filter, All-from_recursion, All-head, All-same, All-tail, filter-append}
use Rattle.std.proofs.lemmas.List.Sums.{length-filter}
use Rattle.snl_cut.specs.Cut.{Rises, ends_below}
use Rattle.snl_lex.specs.declared.piece.Class.{Class}
use Rattle.snl_lex.specs.declared.piece.Piece.{Piece}
use Rattle.snl_lex.specs.PieceList.{is_token_class, listed_pieces, piece_ends, piece_kinds}
use Rattle.snl_lex.specs.Pieces.{is_token, pieces_of, tokens_of}
use Rattle.snl_items.specs.OwnTokens.{tokens_before}
use Rattle.snl_items.proofs.OwnParts.{dropped_tokens, first_tokens, taken_tokens}
use Rattle.snl_items.proofs.ShiftedTokens.{begin_after}
use Rattle.snl_cut.specs.CutLaws.{below_yes, below_no}

rises_at : (from : ℕ) (ends : List ℕ) (k d : ℕ) → Rises from ends → k < length ends → from < get_or ends k d
rises_at from [] k d r lt = absurd (omega arith)
rises_at from (e ∷ es) zero d r lt = r.0
rises_at from (e ∷ es) (suc k) d r lt = omega (arith, r.0, rises_at e es k d r.1 (omega arith))

-- Ends that rise are in order.
pub in_order : (from : ℕ) (ends : List ℕ) → Rises from ends → IsNonDecreasing ends
in_order from [] r i j d le lt = absurd (omega arith)
in_order from (e ∷ es) r zero zero d le lt = omega arith
in_order from (e ∷ es) r zero (suc j) d le lt = omega (arith, rises_at e es j d r.1 (omega arith))
in_order from (e ∷ es) r (suc i) zero d le lt = absurd (omega arith)
in_order from (e ∷ es) r (suc i) (suc j) d le lt = in_order e es r.1 i j d (omega arith) (omega arith)

-- The first ends are below a place and the others aren't: so many are below it.
pub below_at : (place : ℕ) (ends : List ℕ) (i : ℕ) → i ≤ length ends → IsPartitionPoint (λ e. nat_lt e place ≡ true) (λ e. nat_lt e place ≡ false) ends i → i ≡ ends_below place ends
below_at place [] i le h = omega arith
below_at place (e ∷ es) zero le h = sym (ap (λ (t : Bool). cond t (suc (ends_below place es)) 0) (h.1 0 e (omega arith) (omega arith)))
below_at place (e ∷ es) (suc i) le h =
    ap suc (below_at place es i (omega arith) ((λ k d low high. h.0 (suc k) d (omega arith) (omega (arith, high))), (λ k d low high. h.1 (suc k) d (omega (arith, low)) (omega (arith, high)))))
    ∙ sym (ap (λ (t : Bool). cond t (suc (ends_below place es)) 0) (h.0 0 e (omega arith) (omega arith)))

-- The pieces up to the first that ends at a place or after it begin before the place,
early_begin : (place from : ℕ) (ends : List ℕ) (kinds : List Class) → from < place → AllByRecursion (λ p. p.start < place) (take (suc (ends_below place ends)) (listed_pieces from ends kinds))
early_begin place from [] kinds lt = tt
early_begin place from (e ∷ es) [] lt = tt
early_begin place from (e ∷ es) (k ∷ ks) lt =
    elim (cases_lt e place) [
      | inl less ↦
          subst (λ (n : ℕ). AllByRecursion (λ (p : Piece). p.start < place) (take (suc n) (listed_pieces from (e ∷ es) (k ∷ ks)))) (sym (below_yes e place es less))
          (lt, early_begin place e es ks less)
      | inr more ↦
          subst (λ (n : ℕ). AllByRecursion (λ (p : Piece). p.start < place) (take (suc n) (listed_pieces from (e ∷ es) (k ∷ ks)))) (sym (below_no e place es more)) (lt, tt)
    ]

-- and those after it begin there or after it.
late_begin : (place from : ℕ) (ends : List ℕ) (kinds : List Class) → Rises from ends → AllByRecursion (λ p. place ≤ p.start) (drop (suc (ends_below place ends)) (listed_pieces from ends kinds))
late_begin place from [] kinds r = tt
late_begin place from (e ∷ es) [] r = tt
late_begin place from (e ∷ es) (k ∷ ks) r =
    elim (cases_lt e place) [
      | inl less ↦
          subst (λ (n : ℕ). AllByRecursion (λ (p : Piece). place ≤ p.start) (drop (suc n) (listed_pieces from (e ∷ es) (k ∷ ks)))) (sym (below_yes e place es less))
          (late_begin place e es ks r.1)
      | inr more ↦
          subst (λ (n : ℕ). AllByRecursion (λ (p : Piece). place ≤ p.start) (drop (suc n) (listed_pieces from (e ∷ es) (k ∷ ks)))) (sym (below_no e place es more))
          (begin_after place e es ks r.1 more)
    ]

-- Of pieces that begin before a place all pass, and of pieces that begin there or after it none.
abbrev begins_before : (place : ℕ) → Piece → Bool
begins_before place p = nat_lt p.start place

all_pass : (place : ℕ) (ps : List Piece) → All (λ p. p.start < place) ps → length (filter (begins_before place) ps) ≡ length ps
all_pass place [] h = refl
all_pass place (p ∷ ps) h =
    ap (λ (t : Bool). length (cond t (p ∷ filter (begins_before place) ps) (filter (begins_before place) ps))) (lt-ltb p.start place (All-head (λ q. q.start < place) p ps h))
    ∙ ap suc (all_pass place ps (All-tail (λ q. q.start < place) p ps h))

none_pass : (place : ℕ) (ps : List Piece) → All (λ p. place ≤ p.start) ps → length (filter (begins_before place) ps) ≡ 0
none_pass place [] h = refl
none_pass place (p ∷ ps) h =
    ap (λ (t : Bool). length (cond t (p ∷ filter (begins_before place) ps) (filter (begins_before place) ps))) (le-ltb p.start place (All-head (λ q. place ≤ q.start) p ps h))
    ∙ none_pass place ps (All-tail (λ q. place ≤ q.start) p ps h)

-- So where the first ones begin before the place and the others don't, the first ones are counted.
first_pass : (place count : ℕ) (ps : List Piece) → All (λ p. p.start < place) (take count ps) → All (λ p. place ≤ p.start) (drop count ps) → count_by (begins_before place) ps ≡ length (take count ps)
first_pass place count ps front back =
    sym (length-filter (begins_before place) ps)
    ∙ ap (λ (l : List Piece). length (filter (begins_before place) l)) (sym (take-append-drop count ps))
    ∙ ap length (filter-append (begins_before place) (take count ps) (drop count ps))
    ∙ length-append (filter (begins_before place) (take count ps)) (filter (begins_before place) (drop count ps))
    ∙ omega (arith, all_pass place (take count ps) front, none_pass place (drop count ps) back)

-- So do the tokens: as many are in front as there are among the pieces that begin before the place,
-- which their classes tell.
module _ (text ends : List ℕ) (kinds : List Class) (place before pieces count : ℕ) (ends_are : ends ≡ piece_ends text) (kinds_are : kinds ≡ piece_kinds text) (rises : Rises 0 (piece_ends text))
    (listed : listed_pieces 0 (piece_ends text) (piece_kinds text) ≡ pieces_of text) (found : Rises 0 ends → before ≡ ends_below place ends) (some : pieces ≡ min (length kinds) (before + 1))
    (counted : count ≡ count_by is_token_class (take pieces kinds)) where
  abbrev number : ℕ
  number = suc (ends_below place (piece_ends text))

  begin_before : before + 1 ≡ number
  begin_before = omega (arith, found (subst (Rises 0) (sym ends_are) rises), ap (ends_below place) ends_are)

  as_many : count ≡ length (filter is_token (take number (pieces_of text)))
  as_many =
      let most : pieces ≡ min number (length kinds) = omega (arith, some, begin_before) in
      counted
      ∙ ap (count_by is_token_class) (ap (λ (n : ℕ). take n kinds) most ∙ take_min number kinds)
      ∙ ap (λ (l : List Class). tokens_before l number) kinds_are
      ∙ first_tokens (pieces_of text) number

  pub begin_in_front : 0 < place → All (λ p. p.start < place) (take count (tokens_of text))
  begin_in_front lt =
      All-same (λ p. p.start < place) (take count (tokens_of text)) (filter is_token (take number (pieces_of text)))
      (ap (λ (n : ℕ). take n (tokens_of text)) as_many ∙ taken_tokens (pieces_of text) number)
      (All-filter is_token (λ p. p.start < place) (take number (pieces_of text))
      (subst (λ (ps : List Piece). All (λ p. p.start < place) (take number ps)) listed
      (All-from_recursion (λ p. p.start < place) (take number (listed_pieces 0 (piece_ends text) (piece_kinds text))) (early_begin place 0 (piece_ends text) (piece_kinds text) lt))))

  pub begin_behind : All (λ p. place ≤ p.start) (drop count (tokens_of text))
  begin_behind =
      All-same (λ p. place ≤ p.start) (drop count (tokens_of text)) (filter is_token (drop number (pieces_of text)))
      (ap (λ (n : ℕ). drop n (tokens_of text)) as_many ∙ dropped_tokens (pieces_of text) number)
      (All-filter is_token (λ p. place ≤ p.start) (drop number (pieces_of text))
      (subst (λ (ps : List Piece). All (λ p. place ≤ p.start) (drop number ps)) listed
      (All-from_recursion (λ p. place ≤ p.start) (drop number (listed_pieces 0 (piece_ends text) (piece_kinds text))) (late_begin place 0 (piece_ends text) (piece_kinds text) rises))))

  pub begin_count : 0 < place → count ≡ count_by (λ p. nat_lt p.start place) (tokens_of text)
  begin_count lt =
      as_many
      ∙ sym (ap length (ap (λ (n : ℕ). take n (tokens_of text)) as_many ∙ taken_tokens (pieces_of text) number))
      ∙ sym (first_pass place count (tokens_of text) (begin_in_front lt) begin_behind)
