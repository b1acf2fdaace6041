use Rattle.std.specs.List.{flat_map}
use Rattle.std.proofs.Common.{refl}
use Rattle.snl_walk.specs.Declares.{declared_by_member}
use Rattle.snl_walk.specs.Tokens.{token_bytes}
use Rattle.snl_facts.specs.Lists.{at_end}
use Rattle.snl_walk.proofs.declares.add_members.Goals as goal

pub returns : goal.returns
returns c = at_end (flat_map (declared_by_member (token_bytes c.args.source.now.text.now c.args.source.now.tokens.now) c.args.assigned.now)) refl c.args.members.now c.loop-member.member-index c.loop-member.declared.items _ c.loop-member-test.false c.loop-member.invariant
