use Rattle.std.proofs.Common.{◌≡◌, IfOk, ℕ, List, Option, ap₂, subst}
use Rattle.snl_lex.specs.declared.piece.Piece.{Piece}
use Rattle.snl_grammar.specs.declared.tree.item.Item.{Item}
use Rattle.snl_item_check.specs.Items.{ProgramItem}
use Rattle.snl_check.specs.Collected.{items_in}
use Rattle.snl_check.specs.States as states
use Rattle.snl_check.proofs.rows.state_rows.body_at.Goals as goal

pub returns : goal.returns
returns c =
    let row_source = c.args.state_source.now.row_source in
    let made = c.body_of.result in
    let item : List Piece → Option Item → ProgramItem = λ tokens tree. record { tokens = tokens; tree = tree } in
    let Is : List ℕ → ProgramItem → Type 0 = λ text x. IfOk made (λ body. body ≡ states.state_body text row_source.links.now.outlines c.args.item x) in
    subst (λ text. Is text (states.item_at (items_in row_source.program) c.args.item)) c.source.ensures.text (subst (Is c.source.result.text.now) (ap₂ item c.source.ensures.tokens c.tree.ensures) c.body_of.ensures.body)
