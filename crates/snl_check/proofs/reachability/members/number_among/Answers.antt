use Rattle.std.proofs.Common.{Err, Ok, sym}
use Rattle.snl_facts.specs.Positions.{position_searched}
use Rattle.snl_check.proofs.reachability.members.number_among.Goals as goal

pub returns-in-Ok : goal.returns-in-Ok
returns-in-Ok c = sym (position_searched c.args.states.now c.args.item (Ok c.in-Ok.number) c.requires c.in-Ok.ensures.position)

pub returns-in-Err : goal.returns-in-Err
returns-in-Err c = sym (position_searched c.args.states.now c.args.item (Err c.in-Err.field-0) c.requires c.in-Err.ensures.position)
