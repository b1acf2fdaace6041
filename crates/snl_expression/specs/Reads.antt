-- What functions that read tokens return, by the readers that say what is to be read.
use Rattle.std.specs.Prelude.{◌≡◌, ℕ, List, Result, Ok, Err}
use Rattle.snl_lex.specs.declared.kind.Kind.{Kind}
use Rattle.snl_grammar.specs.Steps.{Outcome, Reader}
use Rattle.snl_grammar.specs.Tokens.{ahead}
use Rattle.snl_expression.specs.declared.stop.Stop.{Stop}
use Rattle.snl_expression.specs.declared.stop.Stop.TheVariants as stops

-- what a function returned is what the reader gives, unless memory ran out
abbrev pub Fails : {A : Type 0} → List Kind → Stop → Outcome A → Type 0
Fails kinds (stops.Here at) read = read ≡ Err (ahead kinds at)
Fails kinds stops.OutOfMemory read = Unit {0}

abbrev pub Reads : {A : Type 0} → List Kind → Result (A × ℕ) Stop → Outcome A → Type 0
Reads kinds (Ok x) read = read ≡ Ok (x.0, ahead kinds x.1)
Reads kinds (Err s) read = Fails kinds s read

-- the same of a reader that begins at the token with this number
abbrev pub ReadsFrom : {A : Type 0} → List Kind → ℕ → Result (A × ℕ) Stop → Reader A → Type 0
ReadsFrom kinds at result reader = Reads kinds result (reader (ahead kinds at))

-- the same of one token, whose number is where the reader began
abbrev pub ReadsToken : List Kind → ℕ → Result ℕ Stop → Outcome ℕ → Type 0
ReadsToken kinds at (Ok after) read = read ≡ Ok (at, ahead kinds after)
ReadsToken kinds at (Err s) read = Fails kinds s read

-- the same beside a value
abbrev pub ReadsPast : {A : Type 0} → List Kind → ℕ → Result (A × ℕ) Stop → Outcome ℕ → Type 0
ReadsPast kinds at (Ok x) read = read ≡ Ok (at, ahead kinds x.1)
ReadsPast kinds at (Err s) read = Fails kinds s read
