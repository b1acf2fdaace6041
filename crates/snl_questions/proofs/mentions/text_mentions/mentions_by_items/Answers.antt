use Rattle.std.proofs.Common.{◌≡◌, List, length, ap, sym, ◌∙◌, arith}
use Rattle.snl_cut.specs.CutLaws.{length_members}
use Rattle.snl_lex.specs.declared.piece.Piece.{Piece}
use Rattle.snl_kept.specs.Program.{item_tokens}
use Rattle.snl_questions.specs.Mentions.{mentions_among, mentions_in}
use Rattle.snl_questions.proofs.mentions.text_mentions.mentions_by_items.Goals as goal

pub returns : goal.returns
unfolding mentions_in
returns c =
    let cut = c.args.items.now in
    let xs = item_tokens cut.text.now in
    let count : length xs ≡ length cut.items.ends.now =
    ap (λ (l : List (List Piece)). length l) (sym cut.items_are)
    ∙ length_members cut.items.tokens.now 0 cut.items.ends.now in
    let all : c.loop-number.number ≡ length xs =
    omega (arith, c.loop-number-test.false, c.loop-number.auto.number-end, count) in
    c.loop-number.invariant ∙ ap (mentions_among cut.text.now) all
