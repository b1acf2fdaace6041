-- The names in an expression: the fold at a variant.
use Rattle.std.proofs.Common.{◌≡◌, List, ◌++◌, map, ap, sym, ◌∙◌}
use Rattle.snl_grammar.specs.declared.operator.Assignment.{Assignment}
use Rattle.snl_grammar.specs.declared.tree.expression.Expr.{Expr}
use Rattle.snl_grammar.specs.declared.tree.expression.Expr.TheOpen.{Expr-F}
use Rattle.snl_grammar.specs.declared.tree.expression.Expr.TheFolds.{fold-roll-Expr}
use Rattle.snl_grammar.specs.declared.tree.expression.Expr.TheVariants as tree
use Rattle.snl_walk.specs.declared.occurrence.Setting.{Setting}
use Rattle.snl_walk.specs.Expressions.{Operand, Tail, expr_step, names_in_all, names_in_expr, names_in_targets, operand, plain, suffix_step}

pub names-Assigned : (s : Setting) (targets : List (Expr × Assignment)) (x : Expr) →
    names_in_expr s (tree.Assigned targets x) ≡ names_in_targets (map (λ target. (operand target.0, target.1)) targets) ++ names_in_expr plain x
names-Assigned s targets x =
    ap (names_in_expr s) (sym (tree.rolls-Assigned targets x)) ∙ ap (λ (o : Operand). o.names s) (fold-roll-Expr Operand Tail expr_step suffix_step (Expr-F.Assigned targets x))

pub names-Sequence : (s : Setting) (x : Expr) (xs : List Expr) → names_in_expr s (tree.Sequence x xs) ≡ names_in_expr plain x ++ names_in_all (map operand xs)
names-Sequence s x xs =
    ap (names_in_expr s) (sym (tree.rolls-Sequence x xs)) ∙ ap (λ (o : Operand). o.names s) (fold-roll-Expr Operand Tail expr_step suffix_step (Expr-F.Sequence x xs))
