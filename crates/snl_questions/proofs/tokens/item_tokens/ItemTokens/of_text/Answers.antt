use Rattle.std.proofs.Common.{◌^◌, ◌<◌, ◌≤◌, ℕ, List, All, length, take, sym, subst, arith}
use Rattle.std.specs.Prelude.{EachIndex, slice_index}
use Rattle.snl_cut.specs.Cut.{last_end}
use Rattle.snl_lex.specs.declared.piece.Piece.{Piece}
use Rattle.snl_lex.specs.Pieces.{piece_end}
use Rattle.snl_items.specs.Items.{item_ends, marks_of}
use Rattle.snl_questions.proofs.Texts.{ends_inside, ends_ordered, members_are, tokens_near}
use Rattle.snl_questions.proofs.tokens.item_tokens.ItemTokens.of_text.Goals as goal

pub invariant_of-result-clause-order : goal.invariant_of-result-clause-order
invariant_of-result-clause-order c =
    subst (λ (es : List ℕ). EachIndex es (λ i. last_end 0 (take i es) ≤ slice_index es i))
    (sym c.requires.ends)
    (ends_ordered c.args._text.now (c.ends_in_order.ensures.rise (marks_of c.args._text.now)))

pub invariant_of-result-clause-inside : goal.invariant_of-result-clause-inside
invariant_of-result-clause-inside c =
    let text = c.args._text.now in
    subst (λ (es : List ℕ). EachIndex es (λ i. slice_index es i ≤ length c.args.tokens.now))
    (sym c.requires.ends)
    (subst (λ (ts : List Piece).
    EachIndex (item_ends text) (λ i. slice_index (item_ends text) i ≤ length ts))
    (sym c.requires.tokens)
    (ends_inside text (c.ends_in_order.ensures.within (marks_of text))))

pub invariant_of-result-clause-near : goal.invariant_of-result-clause-near
invariant_of-result-clause-near c =
    let text = c.args._text.now in
    let small : length text < 2 ^ 64 = omega arith in
    subst (All (λ (p : Piece). piece_end p < 2 ^ 64)) (sym c.requires.tokens)
    (tokens_near text small (c.text_in_pieces.ensures.inside text))

pub returns-clause-items : goal.returns-clause-items
returns-clause-items c =
    members_are c.args._text.now c.args.tokens.now c.args.ends.now c.requires.tokens
    c.requires.ends
