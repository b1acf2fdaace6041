-- What is found in a choice or a loop, and what a member of a block declares: the fold at a
-- variant.
use Rattle.std.proofs.Common.{◌≡◌, ℕ, List, [], ◌++◌, Option, Some, None, ap, sym, ◌∙◌}
use Rattle.snl_grammar.specs.declared.tree.expression.Expr.{Expr}
use Rattle.snl_grammar.specs.declared.tree.declaration.Declaration.{Declaration}
use Rattle.snl_grammar.specs.declared.tree.statement.ForHead.{ForHead}
use Rattle.snl_grammar.specs.declared.tree.statement.Member.{Member}
use Rattle.snl_grammar.specs.declared.tree.statement.Member.TheVariants as members
use Rattle.snl_grammar.specs.declared.tree.statement.Member.TheOpen.{Member-F, Stmt-F}
use Rattle.snl_grammar.specs.declared.tree.statement.Member.TheFolds.{fold-roll-Member, fold-roll-Stmt}
use Rattle.snl_grammar.specs.declared.tree.statement.Stmt.{Stmt}
use Rattle.snl_grammar.specs.declared.tree.statement.Stmt.TheVariants as tree
use Rattle.snl_walk.specs.Declares.{declared_in_block}
use Rattle.snl_walk.specs.declared.occurrence.Local.{Local}
use Rattle.snl_walk.specs.declared.occurrence.Occurrence.{Occurrence}
use Rattle.snl_walk.specs.declared.occurrence.Context.{Context}
use Rattle.snl_walk.specs.Scopes.{Names}
use Rattle.snl_walk.specs.Statements.{Content, Found, arms_of, content_of, found_in_branches, found_in_expr, found_in_head, found_in_stmt, in_loop, last_of, member_step, stmt_step}

-- what is found in a statement, by its context
abbrev pub in_context : (ℕ → List ℕ) → Names → Context → Stmt → List Occurrence
in_context bytes visible context s = found_in_stmt bytes s visible context

pub found-If : (bytes : ℕ → List ℕ) (visible : Names) (context : Context) (arms : List (Expr × Stmt)) (last : Option Stmt) →
    in_context bytes visible context (tree.If arms last) ≡ found_in_branches bytes (arms_of bytes arms) (last_of bytes last) visible context
found-If bytes visible context arms None =
    ap (in_context bytes visible context) (sym (tree.rolls-If arms None)) ∙ ap (λ (f : Found). f visible context) (fold-roll-Stmt Content Found (member_step bytes) (stmt_step bytes) (Stmt-F.If arms None))
found-If bytes visible context arms (Some last) =
    ap (in_context bytes visible context) (sym (tree.rolls-If arms (Some last))) ∙ ap (λ (f : Found). f visible context) (fold-roll-Stmt Content Found (member_step bytes) (stmt_step bytes) (Stmt-F.If arms (Some last)))

pub found-While : (bytes : ℕ → List ℕ) (visible : Names) (context : Context) (e : Expr) (body : Stmt) →
    in_context bytes visible context (tree.While e body) ≡ found_in_expr bytes visible e ++ in_context bytes visible (in_loop context) body
found-While bytes visible context e body =
    ap (in_context bytes visible context) (sym (tree.rolls-While e body)) ∙ ap (λ (f : Found). f visible context) (fold-roll-Stmt Content Found (member_step bytes) (stmt_step bytes) (Stmt-F.While e body))

pub found-For : (bytes : ℕ → List ℕ) (visible : Names) (context : Context) (head : ForHead) (body : Stmt) →
    in_context bytes visible context (tree.For head body) ≡ found_in_head bytes visible head ++ in_context bytes visible (in_loop context) body
found-For bytes visible context head body =
    ap (in_context bytes visible context) (sym (tree.rolls-For head body)) ∙ ap (λ (f : Found). f visible context) (fold-roll-Stmt Content Found (member_step bytes) (stmt_step bytes) (Stmt-F.For head body))

-- what a member of a block declares
abbrev pub declares : (ℕ → List ℕ) → Member → List Local
declares bytes m = (content_of bytes m).declares

pub declares-Declaration : (bytes : ℕ → List ℕ) (d : Declaration) → declares bytes (members.Declaration d) ≡ declared_in_block d
declares-Declaration bytes d =
    ap (declares bytes) (sym (members.rolls-Declaration d)) ∙ ap (λ (c : Content). c.declares) (fold-roll-Member Content Found (member_step bytes) (stmt_step bytes) (Member-F.Declaration d))

pub declares-Statement : (bytes : ℕ → List ℕ) (s : Stmt) → declares bytes (members.Statement s) ≡ []
declares-Statement bytes s =
    ap (declares bytes) (sym (members.rolls-Statement s)) ∙ ap (λ (c : Content). c.declares) (fold-roll-Member Content Found (member_step bytes) (stmt_step bytes) (Member-F.Statement s))
