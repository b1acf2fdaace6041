use Rattle.std.proofs.Common.{◌≡◌, ℕ, zero, suc, ◌+◌, ◌-◌, ◌<◌, List, [], ◌∷◌, ◌++◌, length, take, get_or, refl, sym, ap, ◌∙◌, arith}
use Rattle.snl_cut.specs.Cut.{last_end}
use Rattle.snl_lex.specs.declared.piece.Class.{Class}
use Rattle.snl_lex.specs.declared.piece.Piece.{Piece}
use Rattle.snl_lex.specs.PieceList.{listed_pieces, pieces_between}
use Rattle.snl_lex.proofs.Listed.{between_all, listed_more}
use Rattle.snl_lex.proofs.cut.listed_pieces.Goals as goal
use Rattle.snl_cut.specs.CutLaws.{last_taken}

get_or_same : (kinds : List Class) (n : ℕ) (d e : Class) → n < length kinds → get_or kinds n d ≡ get_or kinds n e
get_or_same [] n d e lt = absurd (omega arith)
get_or_same (k ∷ kinds) zero d e lt = refl
get_or_same (k ∷ kinds) (suc n) d e lt = get_or_same kinds n d e (omega arith)

-- One piece more.
one_more : (from : ℕ) (ends : List ℕ) (kinds : List Class) (n start len : ℕ) (d : Class) (before : List Piece) → n < length ends → n < length kinds → start ≡ last_end from (take n ends) → len ≡ get_or ends n 0 - start
    → before ≡ pieces_between (listed_pieces from ends kinds) 0 n
    → before ++ record { kind = get_or kinds n d; start = start; len = len } ∷ [] ≡ pieces_between (listed_pieces from ends kinds) 0 (n + 1)
one_more from ends kinds n start len d before lt lt_kinds begun long are =
    let kind : Class = get_or kinds n d in
    ap (λ (l : List Piece). let q : Piece = record { kind = kind; start = start; len = len } in l ++ q ∷ []) are
    ∙ ap (λ (m : ℕ). let q : Piece = record { kind = kind; start = start; len = m } in pieces_between (listed_pieces from ends kinds) 0 n ++ q ∷ []) long
    ∙ sym (listed_more from ends kinds 0 n (get_or ends n 0) kind start (omega arith) lt lt_kinds refl (get_or_same kinds n d kind lt_kinds) begun)

pub loop-number-preserved : goal.loop-number-preserved
loop-number-preserved c =
    let ends : List ℕ = c.args.ends.now in
    let kinds : List Class = c.args.kinds.now in
    let n : ℕ = c.loop-number.number in
    let lt : n < length ends = omega arith in
    let lt_kinds : n < length kinds = omega (arith, c.requires) in
    let taken : suc n ≡ n + 1 = omega arith in
    record {
      made = c.in_ok-push.ensures.items
          ∙ one_more c.args.from ends kinds n c.loop-number.start c.saturating_sub.result _ c.loop-number.pieces.items lt lt_kinds c.loop-number.invariant.begun c.saturating_sub.ensures c.loop-number.invariant.made;
      begun = sym (last_taken c.args.from ends n lt) ∙ ap (λ (m : ℕ). last_end c.args.from (take m ends)) taken;
    }

pub returns : goal.returns
returns c =
    let ends : List ℕ = c.args.ends.now in
    let kinds : List Class = c.args.kinds.now in
    let all : c.loop-number.number ≡ length ends = omega arith in
    c.loop-number.invariant.made
    ∙ ap (λ (n : ℕ). pieces_between (listed_pieces c.args.from ends kinds) 0 n) all
    ∙ between_all c.args.from ends kinds
