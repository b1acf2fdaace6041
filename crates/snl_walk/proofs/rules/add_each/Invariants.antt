use Rattle.std.proofs.Common.{◌≡◌, ◌++◌, drop}
use Rattle.std.specs.List.{flat_map}
use Rattle.snl_walk.specs.Rules.{found_wrong}
use Rattle.snl_walk.specs.Tokens.{token_bytes}
use Rattle.snl_walk.proofs.rules.add_each.Given as goal

abbrev pub invariant-loop-occurrence : goal.invariant-loop-occurrence
invariant-loop-occurrence g l =
    l.findings.items ++ flat_map (found_wrong (token_bytes l.source.text.now l.source.tokens.now) (g.O.OtherItems.outer_of l.others) (g.O.OtherItems.misses l.others)) (drop l.occurrence-index l.found)
    ≡ l.initial.findings.items ++ flat_map (found_wrong (token_bytes l.source.text.now l.source.tokens.now) (g.O.OtherItems.outer_of l.others) (g.O.OtherItems.misses l.others)) l.found
