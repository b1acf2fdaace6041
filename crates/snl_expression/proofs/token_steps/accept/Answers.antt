use Rattle.std.proofs.Common.{sym}
use Rattle.snl_grammar.specs.TokenLaws.{accept_there, accept_other, accept_none}
use Rattle.snl_expression.proofs.token_steps.accept.Goals.{else-at-kinds-via-then-at-kinds+else-sees, else-at-kinds-via-else-at-kinds}
use Rattle.snl_expression.proofs.token_steps.accept.Goals as goal

pub returns-then-sees : goal.returns-then-sees
returns-then-sees c = accept_there c.args.kind c.args.kinds.now c.args.at c.args.kind c.if-at-kinds.true (sym c.if-sees.ensures)

pub returns-else-at-kinds : goal.returns-else-at-kinds
returns-else-at-kinds c =
    elim c.else-at-kinds.branch [
      | else-at-kinds-via-then-at-kinds+else-sees w ↦ accept_other c.args.kind c.args.kinds.now c.args.at c.args.kind w.if-at-kinds.true (sym w.if-sees.ensures)
      | else-at-kinds-via-else-at-kinds w ↦ accept_none c.args.kind c.args.kinds.now c.args.at w.if-at-kinds.false
    ]
