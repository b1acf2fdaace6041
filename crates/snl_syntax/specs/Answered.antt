-- What the parser's call answers.
use Rattle.std.specs.Prelude.{◌≡◌, ℕ, [], List, Option, Some, None, Result, Ok, Err}
use Rattle.snl_lex.specs.declared.kind.Kind.{Kind}
use Rattle.snl_grammar.specs.Steps.{Outcome}
use Rattle.snl_grammar.specs.declared.tree.item.Item.{Item}
use Rattle.snl_expression.specs.Reads.{Fails}
use Rattle.snl_expression.specs.declared.stop.Stop.{Stop}
use Rattle.snl_syntax.specs.declared.fault.ParseFault.{ParseFault}
use Rattle.snl_syntax.specs.declared.fault.ParseFault.TheVariants as faults

-- what a function returned is the item that all tokens of these kinds give, unless memory ran out
abbrev pub ReadsAll : List Kind → Result Item Stop → Outcome Item → Type 0
ReadsAll kinds (Ok x) read = read ≡ Ok (x, [])
ReadsAll kinds (Err s) read = Fails kinds s read

-- the number that `BadPiece` carries, where that is the answer
abbrev pub bad_in : Result Item ParseFault → Option ℕ
bad_in (Err (faults.BadPiece n)) = Some n
bad_in _ = None

-- what holds of the number that `NoItem` carries, where that is the answer
abbrev pub IfNoItem : Result Item ParseFault → (ℕ → Type 0) → Type 0
IfNoItem (Err (faults.NoItem n)) P = P n
IfNoItem _ P = Unit {0}
