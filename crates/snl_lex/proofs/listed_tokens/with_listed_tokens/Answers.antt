use Rattle.std.proofs.Common.{rules, ◌≡◌, ℕ, suc, ◌+◌, ◌-◌, ◌<◌, ◌≤◌, Bool, true, false, cond, List, [], ◌∷◌, ◌++◌, length, take, filter, get_or, refl, sym, ap, ap₂, ◌∙◌, arith, append_assoc}
use Rattle.std.proofs.lemmas.List.{append-nil, get_or_default}
use Rattle.std.proofs.lemmas.List.Elements.{filter-append}
use Rattle.snl_cut.specs.Cut.{last_end}
use Rattle.snl_lex.specs.declared.piece.Class.{Class}
use Rattle.snl_lex.specs.declared.piece.Class.TheVariants.{White}
use Rattle.snl_lex.specs.declared.piece.Piece.{Piece}
use Rattle.snl_lex.specs.PieceList.{listed_pieces, pieces_between, is_token_class}
use Rattle.snl_lex.specs.Pieces.{is_token}
use Rattle.snl_lex.proofs.Listed.{between_none, listed_more}
use Rattle.snl_lex.proofs.listed_tokens.with_listed_tokens.Goals as goal
use Rattle.snl_lex.proofs.listed_tokens.with_listed_tokens.Goals.{then-is_token, else-is_token}
use Rattle.snl_cut.specs.CutLaws.{last_taken}

-- One piece more: its token, if it is one, is added.
one_more : (begin : ℕ) (ends : List ℕ) (kinds : List Class) (from n : ℕ) (end : ℕ) (kind : Class) (start : ℕ) (before : List Piece)
    → from ≤ n → n < length ends → n < length kinds → end ≡ get_or ends n 0 → kind ≡ get_or kinds n kind → start ≡ last_end begin (take n ends)
    → (t : Bool) (m : ℕ) → t ≡ is_token_class kind → m ≡ end - start
    → (before ++ filter is_token (pieces_between (listed_pieces begin ends kinds) from n)) ++ cond t (record { kind = kind; start = start; len = m } ∷ []) []
    ≡ before ++ filter is_token (pieces_between (listed_pieces begin ends kinds) from (n + 1))
one_more begin ends kinds from n end kind start before le lt lt_kinds end_is kind_is start_is t m t_is m_is =
    let ps : List Piece = listed_pieces begin ends kinds in
    let old : List Piece = before ++ filter is_token (pieces_between ps from n) in
    let p : Piece = record { kind = kind; start = start; len = end - start } in
    let more : pieces_between ps from (n + 1) ≡ pieces_between ps from n ++ p ∷ [] = listed_more begin ends kinds from n end kind start le lt lt_kinds end_is kind_is start_is in
    ap₂ (λ (u : Bool) (k : ℕ). old ++ cond u (record { kind = kind; start = start; len = k } ∷ []) []) t_is m_is
    ∙ append_assoc before (filter is_token (pieces_between ps from n)) (cond (is_token_class kind) (p ∷ []) [])
    ∙ ap (λ (l : List Piece). before ++ l) (sym (filter-append is_token (pieces_between ps from n) (p ∷ [])) ∙ ap (filter is_token) (sym more))

pub loop-number-init : goal.loop-number-init
loop-number-init c =
    let before : List Piece = c.args.tokens.items in
    let ps : List Piece = listed_pieces c.args.begin c.args.list.now.ends.items c.args.list.now.kinds.items in
    record {
      begun = c.start_at-start.ensures;
      added = sym (ap (λ (l : List Piece). before ++ filter is_token l) (between_none ps c.args.from) ∙ append-nil before);
      length = omega arith;
      capacity = refl;
    }

pub loop-number-preserved : goal.loop-number-preserved
loop-number-preserved c =
    let ends : List ℕ = c.args.list.now.ends.items in
    let kinds : List Class = c.args.list.now.kinds.items in
    let n : ℕ = c.loop-number.number in
    let end : ℕ = get_or c.as_slice-ends.result.now n 0 in
    let kind : Class = get_or c.as_slice-kinds.result.now n White in
    let lt : n < length ends = omega (arith, c.args.list.now.ends.ok) in
    let lt_kinds : n < length kinds = omega (arith, c.args.list.now.kinds.ok) in
    let end_is : end ≡ get_or ends n 0 = ap (λ (l : List ℕ). get_or l n 0) c.as_slice-ends.ensures.value in
    let kind_is : kind ≡ get_or kinds n kind = ap (λ (l : List Class). get_or l n White) c.as_slice-kinds.ensures.value ∙ get_or_default kinds n White kind lt_kinds in
    let taken : suc n ≡ n + 1 = omega arith in
    let next = one_more c.args.begin ends kinds c.args.from n end kind c.loop-number.start c.args.tokens.items
    c.loop-number.auto.number lt lt_kinds end_is kind_is c.loop-number.invariant.begun in
    record {
      begun = end_is ∙ sym (last_taken c.args.begin ends n lt) ∙ ap (λ (m : ℕ). last_end c.args.begin (take m ends)) taken;
      added =
          elim c.if-is_token.branch [
            | then-is_token w ↦
                ap (λ v. v.items) w.tokens-is ∙ w.push_reserved.ensures.items
                ∙ ap (λ (l : List Piece). l ++ record { kind = kind; start = c.loop-number.start; len = w.saturating_sub.result } ∷ []) c.loop-number.invariant.added
                ∙ next true w.saturating_sub.result (sym w.if-is_token.true ∙ c.is_token.ensures) w.saturating_sub.ensures
            | else-is_token w ↦
                ap (λ v. v.items) w.tokens-is ∙ c.loop-number.invariant.added ∙ sym (append-nil _)
                ∙ next false (end - c.loop-number.start) (sym w.if-is_token.false ∙ c.is_token.ensures) refl
          ];
      length = search rules;
      capacity = search rules;
    }
