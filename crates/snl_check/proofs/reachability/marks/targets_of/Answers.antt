use Rattle.std.proofs.Common.{map}
use Rattle.snl_check.specs.Members.{numbers_by_member}
use Rattle.snl_check.specs.Reach.{target_lists}
use Rattle.snl_check.proofs.Loops.{all_taken}
use Rattle.snl_check.proofs.reachability.marks.targets_of.Goals as goal

pub returns : goal.returns
returns c =
    all_taken (map (numbers_by_member c.args.links.now.outlines c.args.states.now)) c.args.named.now c.loop-member.member-index (target_lists c.loop-member.targets.items) c.loop-member-test.false c.loop-member.invariant
