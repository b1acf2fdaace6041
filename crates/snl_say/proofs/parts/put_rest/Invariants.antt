use Rattle.std.proofs.Common.{◌≡◌, ◌++◌, take}
use Rattle.std.specs.List.{flat_map}
use Rattle.snl_say.specs.Parts.{after_comma}
use Rattle.snl_say.proofs.parts.put_rest.Given as goal

abbrev pub invariant-loop-part : goal.invariant-loop-part
invariant-loop-part l =
    l.out.items ≡ l.initial.out.items ++ flat_map (after_comma l.end) (take l.part-index l.rest)
