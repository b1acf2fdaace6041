use Rattle.std.specs.List.{flat_map}
use Rattle.std.proofs.Common.{refl}
use Rattle.snl_walk.specs.Items.{found_in_named}
use Rattle.snl_walk.specs.Tokens.{token_bytes}
use Rattle.snl_facts.specs.Lists.{at_end}
use Rattle.snl_walk.proofs.Loops.{one_more_of_each}
use Rattle.snl_walk.proofs.items.add_parameters.Goals as goal

pub loop-parameter-preserved : goal.loop-parameter-preserved
loop-parameter-preserved c =
    one_more_of_each (found_in_named (token_bytes c.args.source.now.text.now c.args.source.now.tokens.now) c.args.names.now) c.args.parameters.now c.loop-parameter.parameter-index
    c.parameter-item.result c.loop-parameter.found.items c.add_parameter.new.found.items _ c.loop-parameter-test.true c.parameter-item.is c.loop-parameter.invariant c.in_ok-add_parameter.ensures

pub returns : goal.returns
returns c = at_end (flat_map (found_in_named (token_bytes c.args.source.now.text.now c.args.source.now.tokens.now) c.args.names.now)) refl c.args.parameters.now c.loop-parameter.parameter-index c.loop-parameter.found.items _ c.loop-parameter-test.false c.loop-parameter.invariant
