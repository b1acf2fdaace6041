use Rattle.std.proofs.Common.{length}
use Rattle.snl_alike.proofs.Rising.{starts_rise, stops_rise}
use Rattle.snl_alike.proofs.moves.Moves.of.Goals as goal

pub invariant_of-result-clause-starts_rise : goal.invariant_of-result-clause-starts_rise
invariant_of-result-clause-starts_rise c =
    starts_rise 0 (length c.args._old.now) c.args.replacements.now c.requires.rise

pub invariant_of-result-clause-stops_rise : goal.invariant_of-result-clause-stops_rise
invariant_of-result-clause-stops_rise c =
    stops_rise 0 (length c.args._old.now) c.args.replacements.now c.requires.rise
