use Rattle.std.specs.List.{flat_map}
use Rattle.std.proofs.Common.{refl}
use Rattle.snl_walk.specs.Items.{found_in_struct_member}
use Rattle.snl_walk.specs.Tokens.{token_bytes}
use Rattle.snl_facts.specs.Lists.{at_end}
use Rattle.snl_walk.proofs.Loops.{one_more_of_each}
use Rattle.snl_walk.proofs.items.add_struct.Goals as goal

pub loop-member-preserved : goal.loop-member-preserved
loop-member-preserved c =
    one_more_of_each (found_in_struct_member (token_bytes c.args.source.now.text.now c.args.source.now.tokens.now)) c.args.members.now c.loop-member.member-index
    c.member-item.result c.loop-member.found.items _ _ c.loop-member-test.true c.member-item.is c.loop-member.invariant c.in_ok-add_struct_member.ensures

pub returns : goal.returns
returns c = at_end (flat_map (found_in_struct_member (token_bytes c.args.source.now.text.now c.args.source.now.tokens.now))) refl c.args.members.now c.loop-member.member-index c.loop-member.found.items _ c.loop-member-test.false c.loop-member.invariant
