use Rattle.std.specs.List.{flat_map}
use Rattle.std.proofs.Common.{refl}
use Rattle.snl_walk.specs.Declares.{declared_by_parameter}
use Rattle.snl_facts.specs.Lists.{at_end}
use Rattle.snl_walk.proofs.declares.declared_by_parameters.Goals as goal

pub returns : goal.returns
returns c = at_end (flat_map declared_by_parameter) refl c.args.parameters.now c.loop-parameter.parameter-index c.loop-parameter.declared.items _ c.loop-parameter-test.false c.loop-parameter.invariant
