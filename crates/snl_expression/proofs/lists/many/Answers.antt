use Rattle.std.proofs.Common.{refl, Ok, ap, ◌∙◌}
use Rattle.std.proofs.lemmas.Result.{err_from_is_err_and}
use Rattle.snl_grammar.specs.Tokens.{ahead}
use Rattle.snl_grammar.specs.Steps.{many}
use Rattle.snl_expression.specs.TurnLaws.{turns_begin, turn_err, turn_end, turn_more, turns_over}
use Rattle.snl_expression.proofs.lists.many.Goals as goal

pub loop-turn-init : goal.loop-turn-init
loop-turn-init g c = (c.requires, λ reader reads. turns_begin reader c.args.found c.args.found c.turns-turn-end.result (ahead c.args.kinds.now c.args.start) refl c.turns-turn-end.ensures)

pub returns-in_err-element : goal.returns-in_err-element
returns-in_err-element g c = λ reader reads.
    let p = err_from_is_err_and c.from_residual.result c.from_residual.ensures.1 in
    rw (p.1, p.2) (turn_err reader (many reader c.args.found (ahead c.args.kinds.now c.args.start)) c.turns-turn-end.result c.loop-turn._turn c.loop-turn.found (ahead c.args.kinds.now c.loop-turn.at) c.args.kinds.now c.in_err-element.field-0.0 c.loop-turn-test.true (c.loop-turn.invariant.1 reader reads) (reads _ _ _ c.in_err-element.ensures))

pub returns-in-None : goal.returns-in-None
returns-in-None g c = λ reader reads.
    turn_end reader (many reader c.args.found (ahead c.args.kinds.now c.args.start)) c.turns-turn-end.result c.loop-turn._turn c.loop-turn.found (ahead c.args.kinds.now c.loop-turn.at) (ahead c.args.kinds.now c.in_ok-element.after) c.loop-turn-test.true (c.loop-turn.invariant.1 reader reads) (reads _ _ _ c.in_ok-element.ensures ∙ ap (λ o. Ok (o, ahead c.args.kinds.now c.in_ok-element.after)) c.in-None.is)

pub loop-turn-preserved : goal.loop-turn-preserved
loop-turn-preserved g c = (
  c.loop-turn.invariant.0,
  λ reader reads.
      rw c.in_ok-found-in-Some.ensures (turn_more reader (many reader c.args.found (ahead c.args.kinds.now c.args.start)) c.turns-turn-end.result c.loop-turn._turn c.loop-turn.found (ahead c.args.kinds.now c.loop-turn.at) c.in-Some.item (ahead c.args.kinds.now c.in_ok-element.after) c.loop-turn-test.true (c.loop-turn.invariant.1 reader reads) (reads _ _ _ c.in_ok-element.ensures ∙ ap (λ o. Ok (o, ahead c.args.kinds.now c.in_ok-element.after)) c.in-Some.is)),
)

pub returns : goal.returns
returns g c = λ reader reads. turns_over reader (many reader c.args.found (ahead c.args.kinds.now c.args.start)) c.turns-turn-end.result c.loop-turn._turn c.loop-turn.found (ahead c.args.kinds.now c.loop-turn.at) c.loop-turn-test.false (c.loop-turn.invariant.1 reader reads)
