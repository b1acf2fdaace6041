-- Readers of statements look no further than one token ahead.
use Rattle.std.proofs.Common.{ℕ, zero, suc, Bool, true, false, List, [], ◌∷◌, ◌++◌, Option, Some, None, sym, ◌∙◌}
use Rattle.snl_lex.specs.declared.kind.Kind.{Kind}
use Rattle.snl_lex.specs.declared.kind.Kind.TheVariants as kind
use Rattle.snl_grammar.specs.declared.step.Step.{Step}
use Rattle.snl_grammar.specs.declared.step.Step.TheVariants as steps
use Rattle.snl_grammar.specs.declared.tree.expression.Expr.{Expr}
use Rattle.snl_grammar.specs.declared.tree.statement.Member.TheVariants as members
use Rattle.snl_grammar.specs.declared.tree.statement.Stmt.{Stmt}
use Rattle.snl_grammar.specs.declared.tree.statement.Stmt.TheVariants as tree
use Rattle.snl_grammar.specs.Steps.{Reader, and_then, pure, refuse, kind_at, expect, word, many, again_or, until}
use Rattle.snl_grammar.specs.Reading.Types.{begins_type}
use Rattle.snl_grammar.specs.Reading.Expressions.{expr}
use Rattle.snl_grammar.specs.Reading.Declarations.{declaration}
use Rattle.snl_grammar.specs.Reading.Statements.{some_before, semicolon_by, before_semicolon, paren_by, before_paren, c_code, jump, change, return_value, evaluation, condition, for_parts, for_head, declared, stated, some_by, some_member, member_by, next_member, block_of, block_statement, body_by, body, while_loop, for_loop, last_body, branch_by, after_else, else_by, arm, arm_step, choice, stmt_by, stmt_of, stmt, block}
use Rattle.snl_grammar.proofs.Local.{Local, Eats, EatsSome, bind_local, choice_local, pure_local, refuse_local, expect_local, many_local, until_local, level_local, bind_eats, eats_after, expect_eats, eats_some, eats_more, none_eats, until_step}
use Rattle.snl_grammar.proofs.TypeLaws.{word_local}
use Rattle.snl_grammar.proofs.ExpressionLocal.{expr_local}
use Rattle.snl_grammar.proofs.DeclarationLocal.{declaration_local, declaration_eats}

-- ---- an expression or nothing, and the token that ends it

before_local : (x : Kind) (p : Reader Expr) → Local p → Local (some_before x p)
unfolding some_before
before_local x p local = bind_local p _ local (λ e. bind_local (expect x) _ (expect_local x) (λ _. pure_local (Some e)))

semicolon_by_local : (p : Reader Expr) → Local p → (o : Option Kind) → Local (semicolon_by p o)
semicolon_by_local p local (Some kind.Semicolon) = word_local kind.Semicolon None
semicolon_by_local p local _ = before_local kind.Semicolon p local

pub semicolon_local : (p : Reader Expr) → Local p → Local (before_semicolon p)
unfolding before_semicolon
semicolon_local p local = choice_local (semicolon_by p) (semicolon_by_local p local)

paren_by_local : (p : Reader Expr) → Local p → (o : Option Kind) → Local (paren_by p o)
paren_by_local p local (Some kind.CloseParen) = word_local kind.CloseParen None
paren_by_local p local _ = before_local kind.CloseParen p local

pub paren_local : (p : Reader Expr) → Local p → Local (before_paren p)
unfolding before_paren
paren_local p local = choice_local (paren_by p) (paren_by_local p local)

-- ---- statements that hold no others

word_eats : {A : Type 0} (x : Kind) (a : A) → Eats (word x a)
word_eats x a = bind_eats (expect x) _ (expect_eats x) (λ _. pure_local a)

code_local : Local c_code
unfolding c_code
code_local = bind_local (expect kind.CCode) _ (expect_local kind.CCode) (λ n. pure_local (tree.CCode n))

code_eats : Eats c_code
unfolding c_code
code_eats = bind_eats (expect kind.CCode) _ (expect_eats kind.CCode) (λ n. pure_local (tree.CCode n))

module _ (x : Kind) (make : ℕ → Stmt) where
  jump_rest : (n : ℕ) → Local (λ k. and_then (expect kind.Semicolon k) (λ _. pure (make n)))
  jump_rest n = bind_local (expect kind.Semicolon) _ (expect_local kind.Semicolon) (λ _. pure_local (make n))

  jump_local : Local (jump x make)
  unfolding jump
  jump_local = bind_local (expect x) _ (expect_local x) jump_rest

  jump_eats : Eats (jump x make)
  unfolding jump
  jump_eats = bind_eats (expect x) _ (expect_eats x) jump_rest

change_rest : (w : ℕ) → Local (λ k. and_then (expect kind.Name k) (λ n. λ l. and_then (expect kind.Semicolon l) (λ _. pure (tree.State w n))))
change_rest w = bind_local (expect kind.Name) _ (expect_local kind.Name) (λ n. bind_local (expect kind.Semicolon) _ (expect_local kind.Semicolon) (λ _. pure_local (tree.State w n)))

change_local : Local change
unfolding change
change_local = bind_local (expect kind.State) _ (expect_local kind.State) change_rest

change_eats : Eats change
unfolding change
change_eats = bind_eats (expect kind.State) _ (expect_eats kind.State) change_rest

module _ (depth : ℕ) where
  return_rest : Local (λ k. and_then (before_semicolon (expr depth) k) (λ e. pure (tree.Return e)))
  return_rest = bind_local (before_semicolon (expr depth)) _ (semicolon_local (expr depth) (expr_local depth)) (λ e. pure_local (tree.Return e))

  return_local : Local (return_value depth)
  unfolding return_value
  return_local = bind_local (expect kind.Return) _ (expect_local kind.Return) (λ _. return_rest)

  return_eats : Eats (return_value depth)
  unfolding return_value
  return_eats = bind_eats (expect kind.Return) _ (expect_eats kind.Return) (λ _. return_rest)

  evaluation_local : Local (evaluation depth)
  unfolding evaluation
  evaluation_local = bind_local (expr depth) _ (expr_local depth) (λ e. bind_local (expect kind.Semicolon) _ (expect_local kind.Semicolon) (λ _. pure_local (tree.Expr e)))

  evaluation_eats : Eats (evaluation depth)
  unfolding evaluation
  evaluation_eats = eats_after (expr depth) _ (expr_local depth) (λ e. bind_eats (expect kind.Semicolon) _ (expect_eats kind.Semicolon) (λ _. pure_local (tree.Expr e)))

  condition_local : Local (condition depth)
  unfolding condition
  condition_local = bind_local (expect kind.OpenParen) _ (expect_local kind.OpenParen) (λ _. bind_local (expr depth) _ (expr_local depth) (λ e. bind_local (expect kind.CloseParen) _ (expect_local kind.CloseParen) (λ _. pure_local e)))

  parts_local : Local (for_parts depth)
  unfolding for_parts
  parts_local =
      bind_local (before_semicolon (expr depth)) _ (semicolon_local (expr depth) (expr_local depth)) (λ a.
      bind_local (before_semicolon (expr depth)) _ (semicolon_local (expr depth) (expr_local depth)) (λ b.
      bind_local (before_paren (expr depth)) _ (paren_local (expr depth) (expr_local depth)) (λ c. pure_local _)))

  head_local : Local (for_head depth)
  unfolding for_head
  head_local = bind_local (expect kind.OpenParen) _ (expect_local kind.OpenParen) (λ _. level_local depth (for_parts depth) parts_local)

-- a list whose every step eats
again_all : {A B : Type 0} (step : Reader (Step A B)) → Eats step → Local step → (found : List A) (o : Step A B) → Local (again_or found (until step) o)
again_all step eats local found (steps.More x) = until_local step (eats_more step eats) local (found ++ x ∷ [])
again_all step eats local found (steps.Last x y) = pure_local _

until_eats : {A B : Type 0} (step : Reader (Step A B)) → Eats step → Local step → (found : List A) → Eats (until step found)
until_eats step eats local found k x m e = bind_eats step (again_or found (until step)) eats (again_all step eats local found) k x m (sym (until_step step (eats_more step eats) found k) ∙ e)

-- ---- statements that hold others
module _ (depth : ℕ) (inner : Reader Stmt) (local : Local inner) (eats : Eats inner) where
  some_by_local : (b : Bool) → Local (some_by depth inner b)
  unfolding declared stated
  some_by_local true = bind_local (declaration depth) _ (declaration_local depth) (λ d. pure_local (Some (members.Declaration d)))
  some_by_local false = bind_local inner _ local (λ s. pure_local (Some (members.Statement s)))

  some_by_eats : (b : Bool) → Eats (some_by depth inner b)
  unfolding declared stated
  some_by_eats true = bind_eats (declaration depth) _ (declaration_eats depth) (λ d. pure_local (Some (members.Declaration d)))
  some_by_eats false = bind_eats inner _ eats (λ s. pure_local (Some (members.Statement s)))

  some_local : Local (some_member depth inner)
  unfolding some_member
  some_local = choice_local (λ o. some_by depth inner (begins_type o)) (λ o. some_by_local (begins_type o))

  some_eats : Eats (some_member depth inner)
  unfolding some_member
  some_eats k x m e = some_by_eats (begins_type (kind_at k)) k x m e

  member_by_local : (o : Option Kind) → Local (member_by depth inner o)
  member_by_local (Some kind.CloseBrace) = pure_local None
  member_by_local _ = some_local

  member_by_eats : (o : Option Kind) → EatsSome (member_by depth inner o)
  member_by_eats (Some kind.CloseBrace) = none_eats
  member_by_eats _ = eats_some (some_member depth inner) some_eats

  pub member_local : Local (next_member depth inner)
  unfolding next_member
  member_local = choice_local (member_by depth inner) member_by_local

  pub member_eats : EatsSome (next_member depth inner)
  unfolding next_member
  member_eats k x m e = member_by_eats (kind_at k) k x m e

  block_rest : Local (λ k. and_then (many (next_member depth inner) [] k) (λ ms. λ l. and_then (expect kind.CloseBrace l) (λ _. pure ms)))
  block_rest = bind_local (many (next_member depth inner) []) _ (many_local (next_member depth inner) member_eats member_local []) (λ ms. bind_local (expect kind.CloseBrace) _ (expect_local kind.CloseBrace) (λ _. pure_local ms))

  pub block_of_local : Local (block_of depth inner)
  unfolding block_of
  block_of_local = bind_local (expect kind.OpenBrace) _ (expect_local kind.OpenBrace) (λ _. block_rest)

  block_of_eats : Eats (block_of depth inner)
  unfolding block_of
  block_of_eats = bind_eats (expect kind.OpenBrace) _ (expect_eats kind.OpenBrace) (λ _. block_rest)

  block_statement_local : Local (block_statement depth inner)
  unfolding block_statement
  block_statement_local = bind_local (block_of depth inner) _ block_of_local (λ ms. pure_local (tree.Block ms))

  block_statement_eats : Eats (block_statement depth inner)
  unfolding block_statement
  block_statement_eats = bind_eats (block_of depth inner) _ block_of_eats (λ ms. pure_local (tree.Block ms))

  body_by_local : (o : Option Kind) → Local (body_by depth inner o)
  body_by_local (Some kind.OpenBrace) = block_statement_local
  body_by_local _ = local

  body_local : Local (body depth inner)
  unfolding body
  body_local = choice_local (body_by depth inner) body_by_local

  while_rest : Local (λ k. and_then (condition depth k) (λ e. λ l. and_then (body depth inner l) (λ s. pure (tree.While e s))))
  while_rest = bind_local (condition depth) _ (condition_local depth) (λ e. bind_local (body depth inner) _ body_local (λ s. pure_local (tree.While e s)))

  while_local : Local (while_loop depth inner)
  unfolding while_loop
  while_local = bind_local (expect kind.While) _ (expect_local kind.While) (λ _. while_rest)

  while_eats : Eats (while_loop depth inner)
  unfolding while_loop
  while_eats = bind_eats (expect kind.While) _ (expect_eats kind.While) (λ _. while_rest)

  for_rest : Local (λ k. and_then (for_head depth k) (λ h. λ l. and_then (body depth inner l) (λ s. pure (tree.For h s))))
  for_rest = bind_local (for_head depth) _ (head_local depth) (λ h. bind_local (body depth inner) _ body_local (λ s. pure_local (tree.For h s)))

  for_local : Local (for_loop depth inner)
  unfolding for_loop
  for_local = bind_local (expect kind.For) _ (expect_local kind.For) (λ _. for_rest)

  for_eats : Eats (for_loop depth inner)
  unfolding for_loop
  for_eats = bind_eats (expect kind.For) _ (expect_eats kind.For) (λ _. for_rest)

  last_local : (a : Expr × Stmt) → Local (last_body depth inner a)
  unfolding last_body
  last_local a = bind_local (body depth inner) _ body_local (λ s. pure_local (steps.Last (Some a) (Some s)))

  branch_by_local : (a : Expr × Stmt) (o : Option Kind) → Local (branch_by depth inner a o)
  branch_by_local a (Some kind.If) = pure_local (steps.More a)
  branch_by_local a _ = last_local a

  else_local : (a : Expr × Stmt) → Local (after_else depth inner a)
  unfolding after_else
  else_local a = bind_local (expect kind.Else) _ (expect_local kind.Else) (λ _. choice_local (branch_by depth inner a) (branch_by_local a))

  else_by_local : (a : Expr × Stmt) (o : Option Kind) → Local (else_by depth inner a o)
  else_by_local a (Some kind.Else) = else_local a
  else_by_local a _ = pure_local (steps.Last (Some a) None)

  arm_rest : Local {A = Expr × Stmt} (λ k. and_then (condition depth k) (λ e. λ l. and_then (body depth inner l) (λ s. pure (e, s))))
  arm_rest = bind_local (condition depth) _ (condition_local depth) (λ e. bind_local (body depth inner) _ body_local (λ s. pure_local (e, s)))

  arm_local : Local (arm depth inner)
  unfolding arm
  arm_local = bind_local (expect kind.If) _ (expect_local kind.If) (λ _. arm_rest)

  arm_eats : Eats (arm depth inner)
  unfolding arm
  arm_eats = bind_eats (expect kind.If) _ (expect_eats kind.If) (λ _. arm_rest)

  pub step_local : Local (arm_step depth inner)
  unfolding arm_step
  step_local = bind_local (arm depth inner) _ arm_local (λ a. choice_local (else_by depth inner a) (else_by_local a))

  pub step_eats : Eats (arm_step depth inner)
  unfolding arm_step
  step_eats = bind_eats (arm depth inner) _ arm_eats (λ a. choice_local (else_by depth inner a) (else_by_local a))

  arms_local : Local (until (arm_step depth inner) [])
  arms_local = until_local (arm_step depth inner) (eats_more (arm_step depth inner) step_eats) step_local []

  choice_is_local : Local (choice depth inner)
  unfolding choice
  choice_is_local = bind_local (until (arm_step depth inner) []) _ arms_local (λ r. pure_local (tree.If r.0 r.1))

  choice_eats : Eats (choice depth inner)
  unfolding choice
  choice_eats = bind_eats (until (arm_step depth inner) []) _ (until_eats (arm_step depth inner) step_eats step_local []) (λ r. pure_local (tree.If r.0 r.1))

  stmt_by_local : (own : ℕ) (o : Option Kind) → Local (stmt_by depth inner own o)
  unfolding stmt_by
  stmt_by_local own (Some kind.OpenBrace) = block_statement_local
  stmt_by_local own (Some kind.If) = choice_is_local
  stmt_by_local own (Some kind.While) = while_local
  stmt_by_local own (Some kind.For) = for_local
  stmt_by_local own (Some kind.Semicolon) = word_local kind.Semicolon tree.Empty
  stmt_by_local own (Some kind.CCode) = code_local
  stmt_by_local own (Some kind.Break) = jump_local kind.Break tree.Break
  stmt_by_local own (Some kind.Continue) = jump_local kind.Continue tree.Continue
  stmt_by_local own (Some kind.Return) = return_local own
  stmt_by_local own (Some kind.State) = change_local
  stmt_by_local own _ = evaluation_local own

  stmt_by_eats : (own : ℕ) (o : Option Kind) → Eats (stmt_by depth inner own o)
  unfolding stmt_by
  stmt_by_eats own (Some kind.OpenBrace) = block_statement_eats
  stmt_by_eats own (Some kind.If) = choice_eats
  stmt_by_eats own (Some kind.While) = while_eats
  stmt_by_eats own (Some kind.For) = for_eats
  stmt_by_eats own (Some kind.Semicolon) = word_eats kind.Semicolon tree.Empty
  stmt_by_eats own (Some kind.CCode) = code_eats
  stmt_by_eats own (Some kind.Break) = jump_eats kind.Break tree.Break
  stmt_by_eats own (Some kind.Continue) = jump_eats kind.Continue tree.Continue
  stmt_by_eats own (Some kind.Return) = return_eats own
  stmt_by_eats own (Some kind.State) = change_eats
  stmt_by_eats own _ = evaluation_eats own

  of_local : (own : ℕ) → Local (stmt_of depth inner own)
  unfolding stmt_of
  of_local own = choice_local (stmt_by depth inner own) (stmt_by_local own)

  of_eats : (own : ℕ) → Eats (stmt_of depth inner own)
  unfolding stmt_of
  of_eats own k x m e = stmt_by_eats own (kind_at k) k x m e

no_eats : {A : Type 0} → Eats {A = A} refuse
no_eats k x m e = absurd cc

both : (depth : ℕ) → Local (stmt depth) × Eats (stmt depth)
unfolding stmt
both zero = (refuse_local, no_eats)
both (suc depth) = let h = both depth in (of_local depth (stmt depth) h.0 h.1 (suc depth), of_eats depth (stmt depth) h.0 h.1 (suc depth))

pub stmt_local : (depth : ℕ) → Local (stmt depth)
stmt_local depth = (both depth).0

pub stmt_eats : (depth : ℕ) → Eats (stmt depth)
stmt_eats depth = (both depth).1

pub block_local : (depth : ℕ) → Local (block depth)
unfolding block
block_local zero = refuse_local
block_local (suc depth) = block_of_local depth (stmt depth) (stmt_local depth) (stmt_eats depth)
