use Rattle.snl_grammar.proofs.Outcomes.{tree_told, blames_within}
use Rattle.snl_grammar.proofs.outcome_laws.outcome_told.Goals as goal

pub returns : goal.returns
returns c = record { tree = tree_told; within = blames_within }
