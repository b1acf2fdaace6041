use Rattle.std.proofs.Common.{◌≡◌, ◌-◌, ◌+◌, ◌*◌}
use Rattle.snl_grammar.specs.Tokens.{ahead}
use Rattle.snl_grammar.specs.Steps.{until, until_within}
use Rattle.snl_grammar.specs.Reading.Declarations.{init, value_step}
use Rattle.snl_syntax.proofs.declaration.initial_values.+init.Given as goal

abbrev pub invariant-more_values-loop-turn : goal.invariant-more_values-loop-turn
invariant-more_values-loop-turn l = until_within (value_step (init l.depth)) (l._turn-end - l._turn) l.found (ahead l.kinds l.at) ≡ until (value_step (init l.depth)) l.fn.found (ahead l.kinds l.start)

abbrev pub decreases-init : goal.decreases-init
decreases-init l = 8 * l.depth + 2

abbrev pub decreases-init_of : goal.decreases-init_of
decreases-init_of l = 8 * l.depth + 1

abbrev pub decreases-values : goal.decreases-values
decreases-values l = 8 * l.depth + 7

abbrev pub decreases-some_values : goal.decreases-some_values
decreases-some_values l = 8 * l.depth + 6

abbrev pub decreases-more_values : goal.decreases-more_values
decreases-more_values l = 8 * l.depth + 5

abbrev pub decreases-value_step : goal.decreases-value_step
decreases-value_step l = 8 * l.depth + 4

abbrev pub decreases-after_comma : goal.decreases-after_comma
decreases-after_comma l = 8 * l.depth + 3
