use Rattle.std.proofs.Common.{refl, Ok, ap, ◌∙◌}
use Rattle.std.proofs.lemmas.Result.{err_from_is_err_and}
use Rattle.snl_grammar.specs.Tokens.{ahead}
use Rattle.snl_grammar.specs.Steps.{until}
use Rattle.snl_expression.specs.TurnLaws.{until_begin, until_err, until_last, until_more, until_over}
use Rattle.snl_expression.proofs.lists.until.Goals as goal

pub loop-turn-init : goal.loop-turn-init
loop-turn-init g c = (c.requires, λ reader reads. until_begin reader c.args.found c.args.found c.turns-turn-end.result (ahead c.args.kinds.now c.args.start) refl c.turns-turn-end.ensures)

pub returns-in_err-step : goal.returns-in_err-step
returns-in_err-step g c = λ reader reads.
    let p = err_from_is_err_and c.from_residual.result c.from_residual.ensures.1 in
    rw (p.1, p.2) (until_err reader (until reader c.args.found (ahead c.args.kinds.now c.args.start)) c.turns-turn-end.result c.loop-turn._turn c.loop-turn.found (ahead c.args.kinds.now c.loop-turn.at) c.args.kinds.now c.in_err-step.field-0.0 c.loop-turn-test.true (c.loop-turn.invariant.1 reader reads) (reads _ _ _ c.in_err-step.ensures))

pub returns-in-Last : goal.returns-in-Last
returns-in-Last g c = λ reader reads.
    rw c.in_ok-ended-in-Last.ensures (until_last reader (until reader c.args.found (ahead c.args.kinds.now c.args.start)) c.turns-turn-end.result c.loop-turn._turn c.loop-turn.found (ahead c.args.kinds.now c.loop-turn.at) c.in-Last.last c.in-Last.value (ahead c.args.kinds.now c.in_ok-step.after) c.loop-turn-test.true (c.loop-turn.invariant.1 reader reads) (reads _ _ _ c.in_ok-step.ensures ∙ ap (λ o. Ok (o, ahead c.args.kinds.now c.in_ok-step.after)) c.in-Last.is))

pub loop-turn-preserved : goal.loop-turn-preserved
loop-turn-preserved g c = (
  c.loop-turn.invariant.0,
  λ reader reads.
      rw c.in_ok-found-in-More.ensures (until_more reader (until reader c.args.found (ahead c.args.kinds.now c.args.start)) c.turns-turn-end.result c.loop-turn._turn c.loop-turn.found (ahead c.args.kinds.now c.loop-turn.at) c.in-More.item (ahead c.args.kinds.now c.in_ok-step.after) c.loop-turn-test.true (c.loop-turn.invariant.1 reader reads) (reads _ _ _ c.in_ok-step.ensures ∙ ap (λ o. Ok (o, ahead c.args.kinds.now c.in_ok-step.after)) c.in-More.is)),
)

pub returns : goal.returns
returns g c = λ reader reads. until_over reader (until reader c.args.found (ahead c.args.kinds.now c.args.start)) c.turns-turn-end.result c.loop-turn._turn c.loop-turn.found (ahead c.args.kinds.now c.loop-turn.at) c.loop-turn-test.false (c.loop-turn.invariant.1 reader reads)
