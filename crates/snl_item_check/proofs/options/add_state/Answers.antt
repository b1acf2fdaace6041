use Rattle.std.proofs.Common.{refl}
use Rattle.std.specs.List.{flat_map}
use Rattle.snl_facts.specs.Lists.{at_end}
use Rattle.snl_walk.specs.Tokens.{token_bytes}
use Rattle.snl_item_check.specs.Options.{unknown_in_member}
use Rattle.snl_item_check.proofs.options.add_state.Goals as goal

pub returns : goal.returns
returns c =
    at_end (flat_map (unknown_in_member (token_bytes c.args.source.now.text.now c.args.source.now.tokens.now))) refl c.args.members.now c.loop-member.member-index c.loop-member.faults.items _ c.loop-member-test.false c.loop-member.invariant
