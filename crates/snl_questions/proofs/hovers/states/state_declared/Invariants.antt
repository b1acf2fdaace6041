use Rattle.std.proofs.Common.{◌≡◌, drop}
use Rattle.snl_questions.specs.Hover.{state_declared}
use Rattle.snl_questions.proofs.hovers.states.state_declared.Given as goal

-- it is among the sets from here on, if it is in one
abbrev pub invariant-loop-set : goal.invariant-loop-set
invariant-loop-set l =
    state_declared l.declared (drop l.set-index l.sets) ≡ state_declared l.declared l.sets
