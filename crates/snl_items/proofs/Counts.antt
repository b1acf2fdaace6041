-- How many tokens end before a place and begin before it, by how many pieces do.
use Rattle.std.proofs.Common.{◌≡◌, ℕ, zero, suc, ◌-◌, ◌≤◌, inl, inr, Bool, true, false, cond, nat_lt, List, [], ◌∷◌, length, map, filter, count_by, take, refl, sym, ap, ◌∙◌, arith}
use Rattle.std.proofs.lemmas.Bool.{cases_lt, lt-ltb, le-ltb}
use Rattle.std.proofs.lemmas.List.Sums.{length-filter}
use Rattle.snl_cut.specs.Cut.{Rises, ends_below, last_end}
use Rattle.snl_lex.specs.declared.piece.Class.{Class}
use Rattle.snl_lex.specs.declared.piece.Piece.{Piece}
use Rattle.snl_lex.specs.PieceList.{is_token_class, listed_pieces}
use Rattle.snl_lex.specs.Pieces.{is_token, piece_end}
use Rattle.snl_cut.specs.CutLaws.{below_yes, below_no}

-- A piece that doesn't pass, and one that does, if it is a token.
none_of : (f : Piece → Bool) (t u : Bool) (p : Piece) (ps : List Piece) → f p ≡ u → u ≡ false → length (filter f (cond t (p ∷ ps) ps)) ≡ length (filter f ps)
none_of f true u p ps e fails = ap (λ (b : Bool). length (cond b (p ∷ filter f ps) (filter f ps))) (e ∙ fails)
none_of f false u p ps e fails = refl

one_of : (f : Piece → Bool) (t u : Bool) (p : Piece) (ps qs : List Piece) → f p ≡ u → u ≡ true → length (filter f ps) ≡ length qs → length (filter f (cond t (p ∷ ps) ps)) ≡ length (cond t (p ∷ qs) qs)
one_of f true u p ps qs e holds same = ap (λ (b : Bool). length (cond b (p ∷ filter f ps) (filter f ps))) (e ∙ holds) ∙ ap suc same
one_of f false u p ps qs e holds same = same

-- Of pieces whose ends rise, none ends before where they begin.
none_ending : (place from : ℕ) (ps : List Piece) → Rises from (map piece_end ps) → place ≤ from → length (filter (λ p. nat_lt (piece_end p) place) (filter is_token ps)) ≡ 0
none_ending place from [] r le = refl
none_ending place from (p ∷ ps) r le =
    none_of (λ q. nat_lt (piece_end q) place) (is_token p) (nat_lt (piece_end p) place) p (filter is_token ps) refl (le-ltb (piece_end p) place (omega (arith, r.0)))
    ∙ none_ending place (piece_end p) ps r.1 (omega (arith, r.0))

ending_length : (place from : ℕ) (ps : List Piece) → Rises from (map piece_end ps)
    → length (filter (λ p. nat_lt (piece_end p) place) (filter is_token ps)) ≡ length (filter is_token (take (ends_below place (map piece_end ps)) ps))
ending_length place from [] r = refl
ending_length place from (p ∷ ps) r =
    elim (cases_lt (piece_end p) place) [
      | inl less ↦
          one_of (λ q. nat_lt (piece_end q) place) (is_token p) (nat_lt (piece_end p) place) p (filter is_token ps) (filter is_token (take (ends_below place (map piece_end ps)) ps)) refl (lt-ltb (piece_end p) place less) (ending_length place (piece_end p) ps r.1)
          ∙ ap (λ (n : ℕ). length (filter is_token (take n (p ∷ ps)))) (sym (below_yes (piece_end p) place (map piece_end ps) less))
      | inr more ↦
          none_of (λ q. nat_lt (piece_end q) place) (is_token p) (nat_lt (piece_end p) place) p (filter is_token ps) refl (le-ltb (piece_end p) place more)
          ∙ none_ending place (piece_end p) ps r.1 more
          ∙ ap (λ (n : ℕ). length (filter is_token (take n (p ∷ ps)))) (sym (below_no (piece_end p) place (map piece_end ps) more))
    ]

-- The tokens that end before a place are those among the pieces that do.
pub ending : (place from : ℕ) (ps : List Piece) → Rises from (map piece_end ps)
    → count_by (λ p. nat_lt (piece_end p) place) (filter is_token ps) ≡ length (filter is_token (take (ends_below place (map piece_end ps)) ps))
ending place from ps r = sym (length-filter (λ p. nat_lt (piece_end p) place) (filter is_token ps)) ∙ ending_length place from ps r

rises_last : (from : ℕ) (ends : List ℕ) (k : ℕ) → Rises from ends → from ≤ last_end from (take k ends)
rises_last from ends zero r = omega arith
rises_last from [] (suc k) r = omega arith
rises_last from (e ∷ es) (suc k) r = omega (arith, r.0, rises_last e es k r.1)

none_beginning : (place from : ℕ) (ends : List ℕ) (kinds : List Class) → Rises from ends → place ≤ from → length (filter (λ p. nat_lt p.start place) (filter is_token (listed_pieces from ends kinds))) ≡ 0
none_beginning place from [] kinds r le = refl
none_beginning place from (e ∷ es) [] r le = refl
none_beginning place from (e ∷ es) (k ∷ ks) r le =
    let p : Piece = record { kind = k; start = from; len = e - from } in
    none_of (λ q. nat_lt q.start place) (is_token p) (nat_lt from place) p (filter is_token (listed_pieces e es ks)) refl (le-ltb from place le)
    ∙ none_beginning place e es ks r.1 (omega (arith, r.0))

beginning_length : (place from : ℕ) (ends : List ℕ) (kinds : List Class) (n : ℕ) → Rises from ends → n ≤ length ends → place ≡ last_end from (take n ends)
    → length (filter (λ p. nat_lt p.start place) (filter is_token (listed_pieces from ends kinds))) ≡ length (filter is_token (take n (listed_pieces from ends kinds)))
beginning_length place from ends kinds zero r le e = none_beginning place from ends kinds r (omega arith)
beginning_length place from [] kinds (suc n) r le e = absurd (omega arith)
beginning_length place from (x ∷ ends) [] (suc n) r le e = refl
beginning_length place from (x ∷ ends) (k ∷ kinds) (suc n) r le e =
    let p : Piece = record { kind = k; start = from; len = x - from } in
    one_of (λ q. nat_lt q.start place) (is_token p) (nat_lt from place) p (filter is_token (listed_pieces x ends kinds)) (filter is_token (take n (listed_pieces x ends kinds))) refl
    (lt-ltb from place (omega (arith, r.0, rises_last x ends n r.1))) (beginning_length place x ends kinds n r.1 (omega arith) e)

-- The tokens that begin before a boundary are those among the pieces up to it.
pub beginning : (place from : ℕ) (ends : List ℕ) (kinds : List Class) (n : ℕ) → Rises from ends → n ≤ length ends → place ≡ last_end from (take n ends)
    → count_by (λ p. nat_lt p.start place) (filter is_token (listed_pieces from ends kinds)) ≡ length (filter is_token (take n (listed_pieces from ends kinds)))
beginning place from ends kinds n r le e =
    sym (length-filter (λ p. nat_lt p.start place) (filter is_token (listed_pieces from ends kinds))) ∙ beginning_length place from ends kinds n r le e

by_class_length : (ps : List Piece) → length (filter is_token_class (map (λ p. p.kind) ps)) ≡ length (filter is_token ps)
by_class_length [] = refl
by_class_length (p ∷ ps) =
    let rest = by_class_length ps in
    let step : (t : Bool) → length (cond t (p.kind ∷ filter is_token_class (map (λ q. q.kind) ps)) (filter is_token_class (map (λ q. q.kind) ps))) ≡ length (cond t (p ∷ filter is_token ps) (filter is_token ps)) =
    elim [ true ↦ ap suc rest | false ↦ rest ] in
    step (is_token p)

-- The tokens are those of the pieces whose class says so.
pub by_class : (ps : List Piece) → count_by is_token_class (map (λ p. p.kind) ps) ≡ length (filter is_token ps)
by_class ps = sym (length-filter is_token_class (map (λ p. p.kind) ps)) ∙ by_class_length ps
