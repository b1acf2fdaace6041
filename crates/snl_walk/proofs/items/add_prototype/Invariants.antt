use Rattle.std.proofs.Common.{◌≡◌, ◌++◌, [], drop}
use Rattle.std.specs.List.{flat_map}
use Rattle.snl_walk.specs.Tokens.{token_bytes}
use Rattle.snl_walk.specs.Items.{found_in_parameter}
use Rattle.snl_walk.proofs.items.add_prototype.Given as goal

abbrev pub invariant-loop-parameter : goal.invariant-loop-parameter
invariant-loop-parameter l = l.found.items ++ flat_map (found_in_parameter (token_bytes l.source.text.now l.source.tokens.now) []) (drop l.parameter-index l.parameters) ≡ l.initial.found.items ++ flat_map (found_in_parameter (token_bytes l.source.text.now l.source.tokens.now) []) l.parameters
