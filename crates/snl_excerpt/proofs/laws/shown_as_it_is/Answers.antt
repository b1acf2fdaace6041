use Rattle.snl_excerpt.proofs.SafeLemmas.{shown_same}
use Rattle.snl_excerpt.proofs.laws.shown_as_it_is.Goals as goal

pub returns : goal.returns
returns c = shown_same
