use Rattle.std.specs.List.{flat_map}
use Rattle.std.proofs.Common.{refl, []}
use Rattle.snl_walk.specs.Items.{found_in_parameter}
use Rattle.snl_walk.specs.Tokens.{token_bytes}
use Rattle.snl_facts.specs.Lists.{at_end}
use Rattle.snl_walk.proofs.items.add_prototype.Goals as goal

pub returns : goal.returns
returns c = at_end (flat_map (found_in_parameter (token_bytes c.args.source.now.text.now c.args.source.now.tokens.now) [])) refl c.args.parameters.now c.loop-parameter.parameter-index c.loop-parameter.found.items _ c.loop-parameter-test.false c.loop-parameter.invariant
