use Rattle.std.specs.List.{flat_map}
use Rattle.std.proofs.Common.{refl}
use Rattle.snl_walk.specs.Rules.{found_wrong}
use Rattle.snl_walk.specs.Tokens.{token_bytes}
use Rattle.snl_facts.specs.Lists.{at_end}
use Rattle.snl_walk.proofs.OccurrenceLoops.{wrong_there}
use Rattle.snl_walk.proofs.rules.add_each.Goals as goal

pub loop-occurrence-preserved : goal.loop-occurrence-preserved
loop-occurrence-preserved g c =
    wrong_there c.args.found.now c.loop-occurrence.occurrence-index _ c.loop-occurrence-test.true (token_bytes c.args.source.now.text.now c.args.source.now.tokens.now) (g.O.OtherItems.outer_of c.args.others.now) c.bytes-name.result.now c.bytes-name.ensures
    (g.O.OtherItems.misses c.args.others.now) c.loop-occurrence.findings.items _ _ c.loop-occurrence.invariant c.in_ok-add_at.ensures

pub returns : goal.returns
returns g c = at_end (flat_map (found_wrong (token_bytes c.args.source.now.text.now c.args.source.now.tokens.now) (g.O.OtherItems.outer_of c.args.others.now) (g.O.OtherItems.misses c.args.others.now))) refl c.args.found.now c.loop-occurrence.occurrence-index c.loop-occurrence.findings.items _ c.loop-occurrence-test.false c.loop-occurrence.invariant
