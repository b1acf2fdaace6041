use Rattle.std.proofs.Common.{◌≡◌, ◌++◌, drop}
use Rattle.std.specs.List.{flat_map}
use Rattle.snl_walk.specs.Declares.{declared_by_parameter}
use Rattle.snl_walk.proofs.declares.declared_by_parameters.Given as goal

abbrev pub invariant-loop-parameter : goal.invariant-loop-parameter
invariant-loop-parameter l =
    l.declared.items ++ flat_map declared_by_parameter (drop l.parameter-index l.parameters)
    ≡ flat_map declared_by_parameter l.parameters
