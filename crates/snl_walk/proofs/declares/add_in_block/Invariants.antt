use Rattle.std.proofs.Common.{◌≡◌, ◌++◌, map, drop}
use Rattle.snl_walk.specs.Declares.{declare, is_event_flag}
use Rattle.std.proofs.Common.{false}
use Rattle.snl_walk.proofs.declares.add_in_block.Given as goal

abbrev pub invariant-loop-declarator : goal.invariant-loop-declarator
invariant-loop-declarator l =
    l.declared.items ++ map (λ d. declare d.name (is_event_flag l.declaration.of.base) false) (drop l.declarator-index l.declarator-items)
    ≡ l.initial.declared.items ++ map (λ d. declare d.name (is_event_flag l.declaration.of.base) false) l.declarator-items
