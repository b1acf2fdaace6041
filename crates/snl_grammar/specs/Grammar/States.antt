-- States and their members. Inside says what an expression is within the brackets of `when`,
-- Declared what a declaration is where the members are, and Block what a block is there.
use Rattle.std.specs.Prelude.{◌≡◌, ℕ, List}
use Rattle.snl_lex.specs.declared.kind.Kind.{Kind}
use Rattle.snl_lex.specs.declared.kind.Kind.TheVariants as kind
use Rattle.snl_grammar.specs.declared.tree.expression.Expr.{Expr}
use Rattle.snl_grammar.specs.declared.tree.declaration.Declaration.{Declaration}
use Rattle.snl_grammar.specs.declared.tree.statement.Member.{Member}
use Rattle.snl_grammar.specs.declared.tree.clause.Clause.{Clause}
use Rattle.snl_grammar.specs.declared.tree.clause.OptionLine.{OptionLine}
use Rattle.snl_grammar.specs.declared.tree.state.Target.{Target}
use Rattle.snl_grammar.specs.declared.tree.state.Target.TheVariants as targets
use Rattle.snl_grammar.specs.declared.tree.state.Transition.{Transition}
use Rattle.snl_grammar.specs.declared.tree.state.StateMember.{StateMember}
use Rattle.snl_grammar.specs.declared.tree.state.StateMember.TheVariants as members
use Rattle.snl_grammar.specs.Tokens.{NumberedKind}
use Rattle.snl_grammar.specs.Grammar.Base.{Each, First, Leaf}
use Rattle.snl_grammar.specs.Grammar.Statements.{IsBefore}
use Rattle.snl_grammar.specs.Grammar.Clauses.{AreForeign, IsOptionLine, IsClause}

-- entry = "entry" block, exit = "exit" block
pub record IsBlockAfter (word : Kind) (Block : List Member → List NumberedKind → List NumberedKind → Type 0) (t : List Member) (k rest : List NumberedKind) : Type 0 where
  pub mid : List NumberedKind
  pub first : First word k mid
  pub block : Block t mid rest

-- "state" NAME | "exit"
pub data IsTarget (t : Target) (k rest : List NumberedKind) : Type 0 where
  next : (n : ℕ) (mid : List NumberedKind) → t ≡ targets.State n → First kind.State k mid → Leaf kind.Name n mid rest → IsTarget t k rest
  leave : t ≡ targets.Exit → First kind.Exit k rest → IsTarget t k rest

-- when = "when" "(" [expr] ")" block ( "state" NAME | "exit" )
pub record IsTransition (Inside : Expr → List NumberedKind → List NumberedKind → Type 0) (Block : List Member → List NumberedKind → List NumberedKind → Type 0) (t : Transition) (k rest : List NumberedKind) : Type 0 where
  pub m1 : List NumberedKind
  pub m2 : List NumberedKind
  pub m3 : List NumberedKind
  pub m4 : List NumberedKind
  pub word : First kind.When k m1
  pub opening : First kind.OpenParen m1 m2
  pub condition : IsBefore kind.CloseParen Inside t.condition m2 m3
  pub block : Block t.block m3 m4
  pub target : IsTarget t.target m4 rest

-- smember = decl | foreign | assign | monitor | sync | syncq | option | ";" | CCODE | entry | exit
-- | when
pub data IsStateMember (Inside : Expr → List NumberedKind → List NumberedKind → Type 0) (Declared : Declaration → List NumberedKind → List NumberedKind → Type 0) (Block : List Member → List NumberedKind → List NumberedKind → Type 0) (t : StateMember) (k rest : List NumberedKind) : Type 0 where
  declaration : (d : Declaration) → t ≡ members.Declaration d → Declared d k rest → IsStateMember Inside Declared Block t k rest
  foreign : (ns : List ℕ) → t ≡ members.Foreign ns → AreForeign ns k rest → IsStateMember Inside Declared Block t k rest
  clause : (c : Clause) → t ≡ members.Clause c → IsClause c k rest → IsStateMember Inside Declared Block t k rest
  option_line : (o : OptionLine) → t ≡ members.OptionLine o → IsOptionLine o k rest → IsStateMember Inside Declared Block t k rest
  empty : t ≡ members.Empty → First kind.Semicolon k rest → IsStateMember Inside Declared Block t k rest
  c_block : (n : ℕ) → t ≡ members.CBlock n → Leaf kind.CCode n k rest → IsStateMember Inside Declared Block t k rest
  entry : (b : List Member) → t ≡ members.Entry b → IsBlockAfter kind.Entry Block b k rest → IsStateMember Inside Declared Block t k rest
  exit : (b : List Member) → t ≡ members.Exit b → IsBlockAfter kind.Exit Block b k rest → IsStateMember Inside Declared Block t k rest
  transition : (x : Transition) → t ≡ members.When x → IsTransition Inside Block x k rest → IsStateMember Inside Declared Block t k rest

-- state = "state" NAME "{" { smember } "}"
pub record IsState (Inside : Expr → List NumberedKind → List NumberedKind → Type 0) (Declared : Declaration → List NumberedKind → List NumberedKind → Type 0) (Block : List Member → List NumberedKind → List NumberedKind → Type 0) (n : ℕ) (ms : List StateMember) (k rest : List NumberedKind) : Type 0 where
  pub m1 : List NumberedKind
  pub m2 : List NumberedKind
  pub m3 : List NumberedKind
  pub m4 : List NumberedKind
  pub word : First kind.State k m1
  pub name : Leaf kind.Name n m1 m2
  pub opening : First kind.OpenBrace m2 m3
  pub members : Each (IsStateMember Inside Declared Block) ms m3 m4
  pub closing : First kind.CloseBrace m4 rest
