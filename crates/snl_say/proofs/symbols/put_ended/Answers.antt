use Rattle.std.proofs.Common.{ap, arith, length, ◌∙◌}
use Rattle.snl_say.specs.Parents.{innermost_first}
use Rattle.snl_say.proofs.ParentSteps.{ended_later, ended_left, ended_more, ended_text}
use Rattle.snl_say.proofs.symbols.put_ended.Goals as goal

pub loop-symbol-smaller : goal.loop-symbol-smaller
loop-symbol-smaller c = omega (arith, ap length c.in-Some.ensures.ended.others)

pub loop-symbol-preserved : goal.loop-symbol-preserved
loop-symbol-preserved c =
    ended_more _ _ _ _ _ _ _ _ _ c.loop-symbol.invariant c.in-Some.ensures.ended
    c.in_ok-put_end.ensures

pub returns-clause-text : goal.returns-clause-text
returns-clause-text c =
    ended_text _ _ _ _ _ _ c.loop-symbol.invariant c.in_default.ensures.none

pub returns-clause-left : goal.returns-clause-left
returns-clause-left c =
    ap innermost_first c.in_default.ensures.stays
    ∙ ended_left _ _ _ _ _ _ c.loop-symbol.invariant c.in_default.ensures.none

pub returns-clause-later : goal.returns-clause-later
returns-clause-later c =
    ended_later _ _ _ _ _ _ c.loop-symbol.invariant c.in_default.ensures.none
