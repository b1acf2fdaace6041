use Rattle.std.proofs.Common.{◌≡◌, false, sym, ap, ◌∙◌, subst, Result}
use Rattle.snl_grammar.specs.declared.tree.expression.Expr.{Expr}
use Rattle.snl_expression.specs.Operands.{is_before}
use Rattle.snl_grammar.specs.Reading.Expressions.{assignx, type_within}
use Rattle.snl_grammar.specs.Steps.{Outcome, kind_at}
use Rattle.snl_expression.specs.Reads.{Reads}
use Rattle.snl_grammar.specs.Tokens.{ahead}
use Rattle.snl_expression.proofs.Bare.{prefix_plain}
use Rattle.snl_expression.proofs.expression.Expressions.prefix.Goals as goal

pub returns-else-is_before : goal.returns-else-is_before
returns-else-is_before g c =
    let k = ahead c.args.kinds.now c.args.at in
    let depth = c.args.self.now.depth in
    let bare : is_before (kind_at k) ≡ false = sym (c.is_before.ensures ∙ ap is_before c.kind_at.ensures) ∙ c.if-is_before.false in
    subst (λ (o : Outcome Expr). Reads c.args.kinds.now c.postfix.result o) (sym (prefix_plain (assignx depth) (type_within depth) k bare)) c.postfix.ensures
