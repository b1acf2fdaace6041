-- Statements and blocks. How each choice is made, by one token alone:
-- A member of a block is a declaration where a token is that begins a type; `}` ends the block, and
-- any other token begins a statement. A statement is chosen by its first token; any that begins no
-- other form begins an expression. The body of `if`, `while`, `for` and `else` is a block where `{`
-- is, which opens its level by its braces; any other token begins a statement one level deeper.
-- After the body of an `if`, `else` is taken first; then `if` goes on with the chain, and any other
-- token begins the body that ends it. So an `else` belongs to the nearest `if`. After `return` and
-- in the brackets of `for`, the token that ends a part means that it is empty; any other
-- begins an expression.
use Rattle.std.specs.Prelude.{ℕ, zero, suc, Bool, true, false, List, [], Option, Some, None}
use Rattle.snl_lex.specs.declared.kind.Kind.{Kind}
use Rattle.snl_lex.specs.declared.kind.Kind.TheVariants as kind
use Rattle.snl_grammar.specs.declared.step.Step.{Step}
use Rattle.snl_grammar.specs.declared.step.Step.TheVariants as steps
use Rattle.snl_grammar.specs.declared.tree.expression.Expr.{Expr}
use Rattle.snl_grammar.specs.declared.tree.statement.ForHead.{ForHead}
use Rattle.snl_grammar.specs.declared.tree.statement.Member.{Member}
use Rattle.snl_grammar.specs.declared.tree.statement.Member.TheVariants as members
use Rattle.snl_grammar.specs.declared.tree.statement.Stmt.{Stmt}
use Rattle.snl_grammar.specs.declared.tree.statement.Stmt.TheVariants as tree
use Rattle.snl_grammar.specs.Steps.{Reader, ◌>>=◌, ◌>>◌, pure, refuse, kind_at, expect, word, many, until, within}
use Rattle.snl_grammar.specs.Reading.Types.{begins_type}
use Rattle.snl_grammar.specs.Reading.Expressions.{expr}
use Rattle.snl_grammar.specs.Reading.Declarations.{declaration}

-- ---- an expression or nothing, and the token that ends it

unfoldable pub some_before : Kind → Reader Expr → Reader (Option Expr)
some_before x p = do
  e ← p
  expect x
  pure (Some e)

abbrev pub semicolon_by : Reader Expr → Option Kind → Reader (Option Expr)
semicolon_by p (Some kind.Semicolon) = word kind.Semicolon None
semicolon_by p _ = some_before kind.Semicolon p

unfoldable pub before_semicolon : Reader Expr → Reader (Option Expr)
before_semicolon p = λ k. semicolon_by p (kind_at k) k

abbrev pub paren_by : Reader Expr → Option Kind → Reader (Option Expr)
paren_by p (Some kind.CloseParen) = word kind.CloseParen None
paren_by p _ = some_before kind.CloseParen p

unfoldable pub before_paren : Reader Expr → Reader (Option Expr)
before_paren p = λ k. paren_by p (kind_at k) k

-- ---- statements that hold no others; `depth` levels are left with the one that they are in

unfoldable pub c_code : Reader Stmt
c_code = do
  n ← expect kind.CCode
  pure (tree.CCode n)

-- `break` or `continue`
unfoldable pub jump : Kind → (ℕ → Stmt) → Reader Stmt
jump x make = do
  n ← expect x
  expect kind.Semicolon
  pure (make n)

unfoldable pub change : Reader Stmt
change = do
  w ← expect kind.State
  n ← expect kind.Name
  expect kind.Semicolon
  pure (tree.State w n)

unfoldable pub return_value : ℕ → Reader Stmt
return_value depth = do
  expect kind.Return
  e ← before_semicolon (expr depth)
  pure (tree.Return e)

unfoldable pub evaluation : ℕ → Reader Stmt
evaluation depth = do
  e ← expr depth
  expect kind.Semicolon
  pure (tree.Expr e)

-- ---- what is in the brackets of a statement; `depth` levels are left within them

unfoldable pub condition : ℕ → Reader Expr
condition depth = do
  expect kind.OpenParen
  e ← expr depth
  expect kind.CloseParen
  pure e

unfoldable pub for_parts : ℕ → Reader ForHead
for_parts depth = do
  a ← before_semicolon (expr depth)
  b ← before_semicolon (expr depth)
  c ← before_paren (expr depth)
  pure (record { first = a; condition = b; step = c })

-- a part may be missing, so that nothing but the token that ends it lies within the brackets
abbrev pub for_within : ℕ → Reader ForHead
for_within depth = within depth (for_parts depth)

unfoldable pub for_head : ℕ → Reader ForHead
for_head depth = expect kind.OpenParen >> for_within depth

-- ---- statements that hold others; `depth` levels are left inside, and `inner` reads a statement
-- there
module _ (depth : ℕ) (inner : Reader Stmt) where
  unfoldable pub declared : Reader (Option Member)
  declared = do
    d ← declaration depth
    pure (Some (members.Declaration d))

  unfoldable pub stated : Reader (Option Member)
  stated = do
    s ← inner
    pure (Some (members.Statement s))

  abbrev pub some_by : Bool → Reader (Option Member)
  some_by true = declared
  some_by false = stated

  unfoldable pub some_member : Reader (Option Member)
  some_member = λ k. some_by (begins_type (kind_at k)) k

  abbrev pub member_by : Option Kind → Reader (Option Member)
  member_by (Some kind.CloseBrace) = pure None
  member_by _ = some_member

  unfoldable pub next_member : Reader (Option Member)
  next_member = λ k. member_by (kind_at k) k

  unfoldable pub block_of : Reader (List Member)
  block_of = do
    expect kind.OpenBrace
    ms ← many next_member []
    expect kind.CloseBrace
    pure ms

  unfoldable pub block_statement : Reader Stmt
  block_statement = do
    ms ← block_of
    pure (tree.Block ms)

  abbrev pub body_by : Option Kind → Reader Stmt
  body_by (Some kind.OpenBrace) = block_statement
  body_by _ = inner

  unfoldable pub body : Reader Stmt
  body = λ k. body_by (kind_at k) k

  unfoldable pub while_loop : Reader Stmt
  while_loop = do
    expect kind.While
    e ← condition depth
    s ← body
    pure (tree.While e s)

  unfoldable pub for_loop : Reader Stmt
  for_loop = do
    expect kind.For
    h ← for_head depth
    s ← body
    pure (tree.For h s)

  unfoldable pub last_body : Expr × Stmt → Reader (Step (Expr × Stmt) (Option Stmt))
  last_body arm = do
    s ← body
    pure (steps.Last (Some arm) (Some s))

  abbrev pub branch_by : Expr × Stmt → Option Kind → Reader (Step (Expr × Stmt) (Option Stmt))
  branch_by arm (Some kind.If) = pure (steps.More arm)
  branch_by arm _ = last_body arm

  unfoldable pub after_else : Expr × Stmt → Reader (Step (Expr × Stmt) (Option Stmt))
  after_else arm = expect kind.Else >> (λ k. branch_by arm (kind_at k) k)

  abbrev pub else_by : Expr × Stmt → Option Kind → Reader (Step (Expr × Stmt) (Option Stmt))
  else_by arm (Some kind.Else) = after_else arm
  else_by arm _ = pure (steps.Last (Some arm) None)

  unfoldable pub arm : Reader (Expr × Stmt)
  arm = do
    expect kind.If
    e ← condition depth
    s ← body
    pure (e, s)

  -- a condition with its body, and what `else` may bring
  unfoldable pub arm_step : Reader (Step (Expr × Stmt) (Option Stmt))
  arm_step = do
    a ← arm
    λ k. else_by a (kind_at k) k

  unfoldable pub choice : Reader Stmt
  choice = do
    r ← until arm_step []
    pure (tree.If r.0 r.1)

  -- a statement by its first token; `own` levels are left with the one that it is in
  unfoldable pub stmt_by : ℕ → Option Kind → Reader Stmt
  stmt_by own (Some kind.OpenBrace) = block_statement
  stmt_by own (Some kind.If) = choice
  stmt_by own (Some kind.While) = while_loop
  stmt_by own (Some kind.For) = for_loop
  stmt_by own (Some kind.Semicolon) = word kind.Semicolon tree.Empty
  stmt_by own (Some kind.CCode) = c_code
  stmt_by own (Some kind.Break) = jump kind.Break tree.Break
  stmt_by own (Some kind.Continue) = jump kind.Continue tree.Continue
  stmt_by own (Some kind.Return) = return_value own
  stmt_by own (Some kind.State) = change
  stmt_by own _ = evaluation own

  unfoldable pub stmt_of : ℕ → Reader Stmt
  stmt_of own = λ k. stmt_by own (kind_at k) k

-- a statement, in so many levels with the one that it is in
unfoldable pub stmt : ℕ → Reader Stmt
stmt zero = refuse
stmt (suc depth) = stmt_of depth (stmt depth) (suc depth)

-- a block, in so many levels with the one that its braces are in
unfoldable pub block : ℕ → Reader (List Member)
block zero = refuse
block (suc depth) = block_of depth (stmt depth)

-- a rule of statements that hold others, where so many levels are left inside
abbrev pub inside : {A : Type 0} → ℕ → (ℕ → Reader Stmt → A) → A
inside depth rule = rule depth (stmt depth)
