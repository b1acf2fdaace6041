-- What statements and blocks spell.
use Rattle.std.specs.Prelude.{List, ◌++◌, map}
use Rattle.snl_lex.specs.declared.kind.Kind.TheVariants as kind
use Rattle.snl_grammar.specs.declared.tree.expression.Expr.{Expr}
use Rattle.snl_grammar.specs.declared.tree.statement.ForHead.{ForHead}
use Rattle.snl_grammar.specs.declared.tree.statement.Member.{Member}
use Rattle.snl_grammar.specs.declared.tree.statement.Member.TheOpen.{Member-F, Stmt-F}
use Rattle.snl_grammar.specs.declared.tree.statement.Member.TheFolds.{fold-Member, fold-Stmt}
use Rattle.snl_grammar.specs.declared.tree.statement.Stmt.{Stmt}
use Rattle.snl_grammar.specs.Spelling.Base.{Spelled, word, leaf, perhaps, joined, between, in_parens, in_braces}
use Rattle.snl_grammar.specs.Spelling.Expressions.{spell_expr}
use Rattle.snl_grammar.specs.Spelling.Declarations.{spell_declaration}

-- "if" "(" expr ")" stmt
abbrev pub spell_choice : Expr × List Spelled → List Spelled
spell_choice arm = word kind.If ++ in_parens (spell_expr arm.0) ++ arm.1

-- "else" stmt
abbrev pub spell_else : List Spelled → List Spelled
spell_else branch = word kind.Else ++ branch

-- [expr] ";" [expr] ";" [expr]
abbrev pub spell_for_parts : ForHead → List Spelled
spell_for_parts head = perhaps spell_expr head.first ++ word kind.Semicolon ++ perhaps spell_expr head.condition ++ word kind.Semicolon ++ perhaps spell_expr head.step

-- "(" [expr] ";" [expr] ";" [expr] ")"
abbrev pub spell_for_head : ForHead → List Spelled
spell_for_head head = in_parens (spell_for_parts head)

-- One level of a tree, with what each part spells in its place: a member is a declaration or a
-- statement.
abbrev pub spell_member_step : Member-F (List Spelled) (List Spelled) → List Spelled
spell_member_step (Member-F.Declaration d) = spell_declaration d
spell_member_step (Member-F.Statement s) = s

-- An `if` has a condition and a statement for each arm, with "else" between, and perhaps a last
-- "else" with a statement.
abbrev pub spell_stmt_step : Stmt-F (List Spelled) (List Spelled) → List Spelled
spell_stmt_step Stmt-F.Empty = word kind.Semicolon
spell_stmt_step (Stmt-F.Expr e) = spell_expr e ++ word kind.Semicolon
spell_stmt_step (Stmt-F.Block members) = in_braces (joined members)
spell_stmt_step (Stmt-F.CCode n) = leaf kind.CCode n
spell_stmt_step (Stmt-F.If arms branch) = between kind.Else (map spell_choice arms) ++ perhaps spell_else branch
spell_stmt_step (Stmt-F.While e body) = word kind.While ++ in_parens (spell_expr e) ++ body
spell_stmt_step (Stmt-F.For head body) = word kind.For ++ spell_for_head head ++ body
spell_stmt_step (Stmt-F.Break n) = leaf kind.Break n ++ word kind.Semicolon
spell_stmt_step (Stmt-F.Continue n) = leaf kind.Continue n ++ word kind.Semicolon
spell_stmt_step (Stmt-F.Return value) = word kind.Return ++ perhaps spell_expr value ++ word kind.Semicolon
spell_stmt_step (Stmt-F.State n name) = leaf kind.State n ++ leaf kind.Name name ++ word kind.Semicolon

abbrev pub spell_member : Member → List Spelled
spell_member = fold-Member (List Spelled) (List Spelled) spell_member_step spell_stmt_step

abbrev pub spell_stmt : Stmt → List Spelled
spell_stmt = fold-Stmt (List Spelled) (List Spelled) spell_member_step spell_stmt_step

-- block = "{" { decl | stmt } "}"
abbrev pub spell_block : List Member → List Spelled
spell_block members = in_braces (joined (map spell_member members))
