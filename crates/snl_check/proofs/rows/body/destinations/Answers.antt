use Rattle.std.proofs.Common.{refl}
use Rattle.std.specs.List.{flat_map}
use Rattle.snl_facts.specs.Lists.{at_end}
use Rattle.snl_check.specs.States.{destinations_in_member}
use Rattle.snl_check.specs.ItemTokens.{own_tokens}
use Rattle.snl_check.proofs.rows.body.destinations.Goals as goal

pub returns : goal.returns
returns c =
    at_end (flat_map (destinations_in_member c.args.source.now.text.now (own_tokens c.args.source.now) c.args.links.now.outlines c.args.item)) refl c.args.members.now c.loop-member.member-index c.loop-member.destinations.items _ c.loop-member-test.false c.loop-member.invariant
