use Rattle.std.proofs.Common.{arith, ◌≡◌, refl, Ok, ap, ◌∙◌}
use Rattle.std.proofs.lemmas.Result.{err_from_is_err_and}
use Rattle.snl_grammar.specs.Tokens.{ahead}
use Rattle.snl_grammar.specs.Steps.{until}
use Rattle.snl_grammar.specs.Reading.Declarations.{init, value_step}
use Rattle.snl_expression.specs.TurnLaws.{until_begin, until_err, until_last, until_more, until_over}
use Rattle.snl_syntax.proofs.Levels.{init_step}
use Rattle.snl_syntax.proofs.declaration.initial_values.+init.Goals as goal

pub more_values-loop-turn-init : goal.more_values-loop-turn-init
more_values-loop-turn-init t c = until_begin (value_step (init c.args.depth)) c.args.found c.args.found c.turns-turn-end.result (ahead c.args.kinds.now c.args.start) refl c.turns-turn-end.ensures

pub more_values-returns-in_err-step : goal.more_values-returns-in_err-step
more_values-returns-in_err-step t c =
    let p = err_from_is_err_and c.from_residual.result c.from_residual.ensures.1 in
    rw (p.1, p.2) (until_err (value_step (init c.args.depth)) (until (value_step (init c.args.depth)) c.args.found (ahead c.args.kinds.now c.args.start)) c.turns-turn-end.result c.loop-turn._turn c.loop-turn.found (ahead c.args.kinds.now c.loop-turn.at) c.args.kinds.now c.in_err-step.field-0.0 c.loop-turn-test.true c.loop-turn.invariant c.in_err-step.ensures)

pub more_values-returns : goal.more_values-returns
more_values-returns t c = until_over (value_step (init c.args.depth)) (until (value_step (init c.args.depth)) c.args.found (ahead c.args.kinds.now c.args.start)) c.turns-turn-end.result c.loop-turn._turn c.loop-turn.found (ahead c.args.kinds.now c.loop-turn.at) c.loop-turn-test.false c.loop-turn.invariant

pub more_values-returns-in-Last : goal.more_values-returns-in-Last
more_values-returns-in-Last t c =
    rw c.in_ok-ended-in-Last.ensures (until_last (value_step (init c.args.depth)) (until (value_step (init c.args.depth)) c.args.found (ahead c.args.kinds.now c.args.start)) c.turns-turn-end.result c.loop-turn._turn c.loop-turn.found (ahead c.args.kinds.now c.loop-turn.at) c.in-Last.last c.in-Last.value (ahead c.args.kinds.now c.in_ok-step.after) c.loop-turn-test.true c.loop-turn.invariant (c.in_ok-step.ensures ∙ ap (λ o. Ok (o, ahead c.args.kinds.now c.in_ok-step.after)) c.in-Last.is))

pub more_values-loop-turn-preserved : goal.more_values-loop-turn-preserved
more_values-loop-turn-preserved t c =
    rw c.in_ok-found-in-More.ensures (until_more (value_step (init c.args.depth)) (until (value_step (init c.args.depth)) c.args.found (ahead c.args.kinds.now c.args.start)) c.turns-turn-end.result c.loop-turn._turn c.loop-turn.found (ahead c.args.kinds.now c.loop-turn.at) c.in-More.item (ahead c.args.kinds.now c.in_ok-step.after) c.loop-turn-test.true c.loop-turn.invariant (c.in_ok-step.ensures ∙ ap (λ o. Ok (o, ahead c.args.kinds.now c.in_ok-step.after)) c.in-More.is))

pub init-returns-then-depth-eq0 : goal.init-returns-then-depth-eq0
unfolding init
init-returns-then-depth-eq0 t c = let none : c.args.depth ≡ 0 = omega arith in ap (λ n. init n (ahead c.args.kinds.now c.args.at)) none

pub init-returns-else-depth-eq0 : goal.init-returns-else-depth-eq0
init-returns-else-depth-eq0 t c = rw (init_step c.args.depth (ahead c.args.kinds.now c.args.at) (omega arith)) c.init_of.ensures
