-- A function value that reads statements, one level deeper.
use Rattle.std.specs.Prelude.{ℕ, Result, List}
use Rattle.std.specs.declared.alloc.Global.{Global}
use denote.Bor.{Bor}
use Rattle.snl_lex.specs.declared.kind.Kind.{Kind}
use Rattle.snl_expression.specs.declared.stop.Stop.{Stop}
use Rattle.snl_grammar.specs.declared.tree.statement.Stmt.{Stmt}
use Rattle.snl_grammar.specs.Tokens.{ahead}
use Rattle.snl_expression.specs.Reads.{Reads}
use Rattle.snl_grammar.specs.Reading.Statements.{stmt}

pub record NestsStatement (depth : ℕ) (pre : Global → Bor (List Kind) → ℕ → ℕ → Type 0)
    (post : Global → Bor (List Kind) → ℕ → ℕ → Result (Stmt × ℕ) Stop → Type 0) : Type 0 where
  pub callable : (alloc : Global) (kinds : Bor (List Kind)) (at : ℕ) → pre alloc kinds at depth
  pub reads : (alloc : Global) (kinds : Bor (List Kind)) (at : ℕ) (r : Result (Stmt × ℕ) Stop) → post alloc kinds at depth r → Reads kinds.now r (stmt depth (ahead kinds.now at))
