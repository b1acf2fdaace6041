use Rattle.std.proofs.Common.{refl}
use Rattle.std.specs.List.{filter_map}
use Rattle.snl_facts.specs.Lists.{at_end}
use Rattle.snl_check.specs.Members.{target_number}
use Rattle.snl_check.proofs.reachability.marks.target_numbers.Goals as goal

pub returns : goal.returns
returns c =
    at_end (filter_map (target_number c.args.links.now.outlines c.args.states.now c.args.state)) refl c.args.targets.now c.loop-target.target-index c.loop-target.numbers.items _ c.loop-target-test.false c.loop-target.invariant
