use Rattle.std.proofs.Common.{List, ap, false, map, ◌++◌, ◌∙◌, arith, refl}
use Rattle.std.proofs.lemmas.Grind.{common_steps}
use Rattle.snl_walk.specs.Tokens.{token_bytes}
use Rattle.snl_grammar.specs.declared.tree.statement.Member.{Member}
use Rattle.snl_walk.specs.Statements.{arms_of, content_of, contents_of, found_in_branches, found_in_contents, found_in_expr, found_in_stmt, last_of}
use Rattle.snl_walk.specs.Expressions.{names_in_expr}
use Rattle.snl_walk.specs.Scopes.{seen}
use Rattle.snl_grammar.specs.declared.tree.expression.Expr.{Expr}
use Rattle.snl_grammar.specs.declared.tree.statement.Stmt.{Stmt}
use Rattle.snl_walk.proofs.Loops.{one_more, two_more}
use Rattle.snl_walk.proofs.Branches.{found-For, found-If, found-While, in_context}
use Rattle.snl_walk.proofs.statements.+statements.Goals as goal

pub add_statement-returns-after-loop-arm-clause-found : goal.add_statement-returns-after-loop-arm-clause-found
add_statement-returns-after-loop-arm-clause-found t c =
    let bytes = token_bytes c.args.source.now.text.now c.args.source.now.tokens.now in
    let same = ap (in_context bytes c.args.names.now c.args.context) c.in-If.is ∙ found-If bytes c.args.names.now c.args.context c.in-If.arms c.in-If.last in
    rw same (grind (arith, common_steps))

pub add_statement-returns-in_ok-add_expr-in-While-clause-found : goal.add_statement-returns-in_ok-add_expr-in-While-clause-found
add_statement-returns-in_ok-add_expr-in-While-clause-found t c =
    let bytes = token_bytes c.args.source.now.text.now c.args.source.now.tokens.now in
    let same = ap (in_context bytes c.args.names.now c.args.context) c.in-While.is ∙ found-While bytes c.args.names.now c.args.context c.in-While.condition c.in-While.body in
    rw same (grind (arith, common_steps))

pub add_statement-returns-in_ok-add_head-in-For-clause-found : goal.add_statement-returns-in_ok-add_head-in-For-clause-found
add_statement-returns-in_ok-add_head-in-For-clause-found t c =
    let bytes = token_bytes c.args.source.now.text.now c.args.source.now.tokens.now in
    let same = ap (in_context bytes c.args.names.now c.args.context) c.in-For.is ∙ found-For bytes c.args.names.now c.args.context c.in-For.head c.in-For.body in
    rw same (grind (arith, common_steps))

pub add_block-loop-member-preserved : goal.add_block-loop-member-preserved
add_block-loop-member-preserved t c =
    let bytes = (token_bytes c.args.source.now.text.now c.args.source.now.tokens.now) in
    let kept = c.loop-member.invariant.names in
    record {
      names = c.in_ok-add_content.ensures.names ∙ kept;
      found =
          one_more (λ (ms : List Member). found_in_contents (contents_of bytes ms) c.enter.new.names c.args.context) (λ (m : Member). (content_of bytes m).found c.enter.new.names c.args.context)
          (λ m ms. refl) c.args.members.now c.loop-member.member-index c.member-item.result c.loop-member.found.items _ _ c.loop-member-test.true c.member-item.is c.loop-member.invariant.found
          (c.in_ok-add_content.ensures.found ∙ ap (λ v. c.loop-member.found.items ++ (content_of bytes c.member-item.result).found v c.args.context) kept);
    }

pub add_statement-loop-arm-preserved : goal.add_statement-loop-arm-preserved
add_statement-loop-arm-preserved t c =
    let bytes = (token_bytes c.args.source.now.text.now c.args.source.now.tokens.now) in
    let context = c.args.context in
    let names = c.args.names.now in
    let kept = c.loop-arm.invariant.names in
    let arm = c.arm-item.result in
    let ys = c.loop-arm.found.items in
    let zs = c.add_expr-in-loop-arm.new.found.items in
    let all = c.add_statement.new.found.items in
    record {
      names = c.in_ok-add_statement-in-If.ensures.names ∙ kept;
      found =
          one_more (λ (arms : List (Expr × Stmt)). found_in_branches bytes (arms_of bytes arms) (last_of bytes c.in-If.last) names context)
          (λ (a : Expr × Stmt). found_in_expr bytes names a.0 ++ found_in_stmt bytes a.1 names context) (λ a arms. refl)
          c.as_slice-arm-items.result.now c.loop-arm.arm-index arm ys all _ c.loop-arm-test.true c.arm-item.is c.loop-arm.invariant.found
          (two_more ys zs all (found_in_expr bytes names arm.0) (found_in_stmt bytes arm.1 names context)
          (c.in_ok-add_expr-in-If.ensures ∙ ap (λ s. ys ++ map (seen bytes c.loop-arm.names false) (names_in_expr s arm.0)) c.plain-in-loop-arm.ensures ∙ ap (λ v. ys ++ found_in_expr bytes v arm.0) kept)
          (c.in_ok-add_statement-in-If.ensures.found ∙ ap (λ v. zs ++ found_in_stmt bytes arm.1 v context) kept));
    }
