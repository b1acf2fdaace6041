-- A function value that reads the next element of a list.
use Rattle.std.specs.Prelude.{ℕ, List, Result}
use denote.Bor.{Bor}
use Rattle.snl_lex.specs.declared.kind.Kind.{Kind}
use Rattle.snl_expression.specs.declared.stop.Stop.{Stop}
use Rattle.snl_grammar.specs.Steps.{Reader}
use Rattle.snl_expression.specs.Reads.{ReadsFrom}

-- whatever it returns is what this reader gives
abbrev pub IsReadBy : {A : Type 0} → (Bor (List Kind) → ℕ → Result (A × ℕ) Stop → Type 0) → Reader A → Type 0
IsReadBy {A} post reader = (kinds : Bor (List Kind)) (at : ℕ) (r : Result (A × ℕ) Stop) → post kinds at r → ReadsFrom kinds.now at r reader
