use Rattle.std.proofs.Common.{◌≡◌, ◌-◌, Option}
use Rattle.snl_expression.specs.Elements.{IsReadBy}
use Rattle.snl_grammar.specs.Steps.{Reader, many, many_within}
use Rattle.snl_grammar.specs.Tokens.{ahead}
use Rattle.snl_expression.proofs.lists.many.Given as goal

abbrev pub invariant-loop-turn : goal.invariant-loop-turn
invariant-loop-turn g l = goal.N-IsAlwaysCallable g l.next × ((reader : Reader (Option _)) → IsReadBy (goal.N-post g l.next) reader → many_within reader (l._turn-end - l._turn) l.found (ahead l.kinds l.at) ≡ many reader l.fn.found (ahead l.kinds l.start))
