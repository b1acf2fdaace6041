use Rattle.std.proofs.Common.{◌≡◌, ℕ, IfOk, List, ◌∙◌, subst}
use Rattle.std.specs.Option.{option_copied}
use Rattle.snl_lex.specs.declared.piece.Piece.{Piece}
use Rattle.snl_check.specs.States.{state_body}
use Rattle.snl_check.proofs.rows.body.state_body.Goals as goal

pub returns : goal.returns
returns c =
    let tree = option_copied c.args.tree in
    let outlines = c.args.links.now.outlines in
    record {
      body =
          subst (λ (t : List ℕ). IfOk c.body_of.result (λ b. b ≡ state_body t outlines c.args.item (record { tokens = c.args.source.now.tokens.now; tree = tree }))) c.of-own.ensures.text
          (subst (λ (ts : List Piece). IfOk c.body_of.result (λ b. b ≡ state_body c.of-own.result.text.now outlines c.args.item (record { tokens = ts; tree = tree }))) (c.of-own.ensures.tokens ∙ c.listed-tokens.ensures) c.body_of.ensures.body);
    }
