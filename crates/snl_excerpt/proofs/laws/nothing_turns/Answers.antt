use Rattle.snl_excerpt.specs.Safe.{TurnsNothing}
use Rattle.snl_excerpt.proofs.SafeLemmas.{no_turns, shown_holds}
use Rattle.snl_excerpt.proofs.laws.nothing_turns.Goals as goal

pub returns : goal.returns
returns c = shown_holds TurnsNothing no_turns
