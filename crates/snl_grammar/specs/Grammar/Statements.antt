-- Statements and blocks. Inside says what an expression is one level deeper, Outside what it is at
-- a statement's own level, Head what the brackets of a `for` are, Declared what a declaration is
-- one level deeper, and Inner what a statement is there. A statement that is before an `else`
-- doesn't end with an `if` that has none: it is closed. The flag `closed` is handed on to what a
-- statement ends with.
use Rattle.std.specs.Prelude.{◌≡◌, ◌++◌, ℕ, zero, suc, Bool, true, false, List, [], ◌∷◌, Option, Some, None}
use Rattle.snl_lex.specs.declared.kind.Kind.{Kind}
use Rattle.snl_lex.specs.declared.kind.Kind.TheVariants as kind
use Rattle.snl_grammar.specs.declared.tree.expression.Expr.{Expr}
use Rattle.snl_grammar.specs.declared.tree.declaration.Declaration.{Declaration}
use Rattle.snl_grammar.specs.declared.tree.statement.ForHead.{ForHead}
use Rattle.snl_grammar.specs.declared.tree.statement.Member.{Member}
use Rattle.snl_grammar.specs.declared.tree.statement.Member.TheVariants as members
use Rattle.snl_grammar.specs.declared.tree.statement.Stmt.{Stmt}
use Rattle.snl_grammar.specs.declared.tree.statement.Stmt.TheVariants as tree
use Rattle.snl_grammar.specs.Tokens.{NumberedKind}
use Rattle.snl_grammar.specs.Grammar.Base.{AreFree, Each, First, Leaf, Perhaps, Within}
use Rattle.snl_grammar.specs.Grammar.Expressions.{IsExpr}
use Rattle.snl_grammar.specs.Grammar.Declarations.{IsDeclaration}

-- Where a statement is: as a member of a block; as the body of `if`, `while` or `for`, where it is
-- no block, since a block opens its level by its braces; or after `else`, where it is no `if`
-- either, since that goes on with the chain.
pub data Place : Type 0 where
  within_block : Place
  as_body : Place
  after_else : Place

abbrev pub may_be_block : Place → Bool
may_be_block within_block = true
may_be_block _ = false

abbrev pub may_be_choice : Place → Bool
may_be_choice after_else = false
may_be_choice _ = true

-- an expression or nothing, and the token that ends it
pub record IsBefore (x : Kind) (R : Expr → List NumberedKind → List NumberedKind → Type 0) (e : Option Expr) (k rest : List NumberedKind) : Type 0 where
  pub mid : List NumberedKind
  pub value : Perhaps R e k mid
  pub mark : First x mid rest

-- "(" expr ")"
pub record IsCondition (Inside : Expr → List NumberedKind → List NumberedKind → Type 0) (e : Expr) (k rest : List NumberedKind) : Type 0 where
  pub m1 : List NumberedKind
  pub m2 : List NumberedKind
  pub opening : First kind.OpenParen k m1
  pub value : Inside e m1 m2
  pub closing : First kind.CloseParen m2 rest

-- [expr] ";" [expr] ";" [expr] ")"
pub record AreForParts (Inside : Expr → List NumberedKind → List NumberedKind → Type 0) (t : ForHead) (k rest : List NumberedKind) : Type 0 where
  pub m1 : List NumberedKind
  pub m2 : List NumberedKind
  pub first : IsBefore kind.Semicolon Inside t.first k m1
  pub condition : IsBefore kind.Semicolon Inside t.condition m1 m2
  pub step : IsBefore kind.CloseParen Inside t.step m2 rest

-- "(" and what is within these brackets
pub record IsForHead (Parts : ForHead → List NumberedKind → List NumberedKind → Type 0) (t : ForHead) (k rest : List NumberedKind) : Type 0 where
  pub mid : List NumberedKind
  pub opening : First kind.OpenParen k mid
  pub parts : Parts t mid rest

-- "(" [expr] ";" [expr] ";" [expr] ")", where so many levels are left within the brackets
abbrev pub IsForHeadWithin : ℕ → ℕ → ℕ → ForHead → List NumberedKind → List NumberedKind → Type 0
IsForHeadWithin free extra depth = IsForHead (Within free extra depth (AreForParts (IsExpr free extra depth)))

-- decl | stmt
pub data IsMember (Declared : Declaration → List NumberedKind → List NumberedKind → Type 0) (Inner : Place → Bool → Stmt → List NumberedKind → List NumberedKind → Type 0) (t : Member) (k rest : List NumberedKind) : Type 0 where
  declaration : (d : Declaration) → t ≡ members.Declaration d → Declared d k rest → IsMember Declared Inner t k rest
  statement : (s : Stmt) → t ≡ members.Statement s → Inner within_block false s k rest → IsMember Declared Inner t k rest

-- block = "{" { decl | stmt } "}"
pub record IsBlock (Declared : Declaration → List NumberedKind → List NumberedKind → Type 0) (Inner : Place → Bool → Stmt → List NumberedKind → List NumberedKind → Type 0) (ts : List Member) (k rest : List NumberedKind) : Type 0 where
  pub m1 : List NumberedKind
  pub m2 : List NumberedKind
  pub opening : First kind.OpenBrace k m1
  pub members : Each (IsMember Declared Inner) ts m1 m2
  pub closing : First kind.CloseBrace m2 rest

-- the body of a statement: a block, or a statement one level deeper
pub data IsBody (Declared : Declaration → List NumberedKind → List NumberedKind → Type 0) (Inner : Place → Bool → Stmt → List NumberedKind → List NumberedKind → Type 0) (place : Place) (closed : Bool) (t : Stmt) (k rest : List NumberedKind) : Type 0 where
  block : (ts : List Member) → t ≡ tree.Block ts → IsBlock Declared Inner ts k rest → IsBody Declared Inner place closed t k rest
  deeper : Inner place closed t k rest → IsBody Declared Inner place closed t k rest

-- "if" "(" expr ")" stmt
pub record IsArm (Inside : Expr → List NumberedKind → List NumberedKind → Type 0) (Declared : Declaration → List NumberedKind → List NumberedKind → Type 0) (Inner : Place → Bool → Stmt → List NumberedKind → List NumberedKind → Type 0) (closed : Bool) (arm : Expr × Stmt) (k rest : List NumberedKind) : Type 0 where
  pub m1 : List NumberedKind
  pub m2 : List NumberedKind
  pub word : First kind.If k m1
  pub condition : IsCondition Inside arm.0 m1 m2
  pub body : IsBody Declared Inner as_body closed arm.1 m2 rest

-- an arm, and the `else` after it
pub record IsPassed (Inside : Expr → List NumberedKind → List NumberedKind → Type 0) (Declared : Declaration → List NumberedKind → List NumberedKind → Type 0) (Inner : Place → Bool → Stmt → List NumberedKind → List NumberedKind → Type 0) (arm : Expr × Stmt) (k rest : List NumberedKind) : Type 0 where
  pub mid : List NumberedKind
  pub front : IsArm Inside Declared Inner true arm k mid
  pub word : First kind.Else mid rest

-- what may come after the last `else`
pub record IsElse (Declared : Declaration → List NumberedKind → List NumberedKind → Type 0) (Inner : Place → Bool → Stmt → List NumberedKind → List NumberedKind → Type 0) (closed : Bool) (t : Stmt) (k rest : List NumberedKind) : Type 0 where
  pub mid : List NumberedKind
  pub word : First kind.Else k mid
  pub body : IsBody Declared Inner after_else closed t mid rest

-- the last arm of a chain, with `else` and a statement or not
abbrev pub IsLast : (Expr → List NumberedKind → List NumberedKind → Type 0) → (Declaration → List NumberedKind → List NumberedKind → Type 0) → (Place → Bool → Stmt → List NumberedKind → List NumberedKind → Type 0) → Bool → Expr × Stmt → Option Stmt → List NumberedKind → List NumberedKind → Type 0
IsLast Inside Declared Inner closed arm None k rest = (closed ≡ false) × IsArm Inside Declared Inner false arm k rest
IsLast Inside Declared Inner closed arm (Some t) k rest = (mid : List NumberedKind) × IsArm Inside Declared Inner true arm k mid × IsElse Declared Inner closed t mid rest

pub data IsStmt (Inside Outside : Expr → List NumberedKind → List NumberedKind → Type 0) (Head : ForHead → List NumberedKind → List NumberedKind → Type 0) (Declared : Declaration → List NumberedKind → List NumberedKind → Type 0) (Inner : Place → Bool → Stmt → List NumberedKind → List NumberedKind → Type 0) (place : Place) (closed : Bool) (t : Stmt) (k rest : List NumberedKind) : Type 0 where
  -- [expr] ";"
  empty : t ≡ tree.Empty → First kind.Semicolon k rest → IsStmt Inside Outside Head Declared Inner place closed t k rest
  evaluation : (e : Expr) (mid : List NumberedKind) → t ≡ tree.Expr e → Outside e k mid → First kind.Semicolon mid rest → IsStmt Inside Outside Head Declared Inner place closed t k rest
  block : (ts : List Member) → may_be_block place ≡ true → t ≡ tree.Block ts → IsBlock Declared Inner ts k rest → IsStmt Inside Outside Head Declared Inner place closed t k rest
  c_code : (n : ℕ) → t ≡ tree.CCode n → Leaf kind.CCode n k rest → IsStmt Inside Outside Head Declared Inner place closed t k rest
  -- "if" "(" expr ")" stmt [ "else" stmt ]
  choice : (arms : List (Expr × Stmt)) (last : Expr × Stmt) (branch : Option Stmt) (mid : List NumberedKind) → may_be_choice place ≡ true → t ≡ tree.If (arms ++ last ∷ []) branch → Each (IsPassed Inside Declared Inner) arms k mid → IsLast Inside Declared Inner closed last branch mid rest → IsStmt Inside Outside Head Declared Inner place closed t k rest
  -- "while" "(" expr ")" stmt
  while_loop : (e : Expr) (s : Stmt) (m1 m2 : List NumberedKind) → t ≡ tree.While e s → First kind.While k m1 → IsCondition Inside e m1 m2 → IsBody Declared Inner as_body closed s m2 rest → IsStmt Inside Outside Head Declared Inner place closed t k rest
  -- "for" "(" [expr] ";" [expr] ";" [expr] ")" stmt
  for_loop : (h : ForHead) (s : Stmt) (m1 m2 : List NumberedKind) → t ≡ tree.For h s → First kind.For k m1 → Head h m1 m2 → IsBody Declared Inner as_body closed s m2 rest → IsStmt Inside Outside Head Declared Inner place closed t k rest
  -- "break" ";"
  break_loop : (n : ℕ) (mid : List NumberedKind) → t ≡ tree.Break n → Leaf kind.Break n k mid → First kind.Semicolon mid rest → IsStmt Inside Outside Head Declared Inner place closed t k rest
  -- "continue" ";"
  continue_loop : (n : ℕ) (mid : List NumberedKind) → t ≡ tree.Continue n → Leaf kind.Continue n k mid → First kind.Semicolon mid rest → IsStmt Inside Outside Head Declared Inner place closed t k rest
  -- "return" [expr] ";"
  return_value : (e : Option Expr) (mid : List NumberedKind) → t ≡ tree.Return e → First kind.Return k mid → IsBefore kind.Semicolon Outside e mid rest → IsStmt Inside Outside Head Declared Inner place closed t k rest
  -- "state" NAME ";"
  change : (w n : ℕ) (m1 m2 : List NumberedKind) → t ≡ tree.State w n → Leaf kind.State w k m1 → Leaf kind.Name n m1 m2 → First kind.Semicolon m2 rest → IsStmt Inside Outside Head Declared Inner place closed t k rest

-- A statement and a block, in so many levels; tokens from the `free`th on may use `extra` more.
abbrev pub IsStatement : ℕ → ℕ → ℕ → Place → Bool → Stmt → List NumberedKind → List NumberedKind → Type 0
IsStatement free extra (suc depth) place closed t k rest = IsStmt (IsExpr free extra depth) (IsExpr free extra (suc depth)) (IsForHeadWithin free extra depth) (IsDeclaration free extra depth) (IsStatement free extra depth) place closed t k rest
IsStatement free (suc extra) zero place closed t k rest = AreFree free k × IsStmt (IsExpr free extra zero) (IsExpr free (suc extra) zero) (IsForHeadWithin free extra zero) (IsDeclaration free extra zero) (IsStatement free extra zero) place closed t k rest
IsStatement free zero zero place closed t k rest = ⊥

abbrev pub IsBlockWithin : ℕ → ℕ → ℕ → List Member → List NumberedKind → List NumberedKind → Type 0
IsBlockWithin free extra (suc depth) ts k rest = IsBlock (IsDeclaration free extra depth) (IsStatement free extra depth) ts k rest
IsBlockWithin free (suc extra) zero ts k rest = AreFree free k × IsBlock (IsDeclaration free extra zero) (IsStatement free extra zero) ts k rest
IsBlockWithin free zero zero ts k rest = ⊥
