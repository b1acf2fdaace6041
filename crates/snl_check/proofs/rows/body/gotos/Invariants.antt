use Rattle.std.proofs.Common.{◌≡◌, ◌++◌, drop, map}
use Rattle.snl_check.specs.States.{by_statements, named_state}
use Rattle.snl_check.specs.ItemTokens.{own_tokens}
use Rattle.snl_check.proofs.rows.body.gotos.Given as goal

-- those so far and those of the rest are all
abbrev pub invariant-loop-target : goal.invariant-loop-target
invariant-loop-target l =
    let named = named_state l.source.text.now (own_tokens l.source) l.links.outlines l.item in
    l.gotos.items ++ map named (by_statements (drop l.target-index l.targets)) ≡ map named (by_statements l.targets)
