use Rattle.std.proofs.Common.{◌≡◌, ◌-◌}
use Rattle.snl_expression.specs.Elements.{IsReadBy}
use Rattle.snl_grammar.specs.Steps.{Reader, until, until_within}
use Rattle.snl_grammar.specs.Tokens.{ahead}
use Rattle.snl_grammar.specs.declared.step.Step.{Step}
use Rattle.snl_expression.proofs.lists.until.Given as goal

abbrev pub invariant-loop-turn : goal.invariant-loop-turn
invariant-loop-turn g l = goal.N-IsAlwaysCallable g l.next × ((reader : Reader (Step _ _)) → IsReadBy (goal.N-post g l.next) reader → until_within reader (l._turn-end - l._turn) l.found (ahead l.kinds l.at) ≡ until reader l.fn.found (ahead l.kinds l.start))
