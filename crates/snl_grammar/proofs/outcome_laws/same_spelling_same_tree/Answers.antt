use Rattle.snl_grammar.proofs.Outcomes.{same_kinds, same_bad, same_parsed, parsed_spelled}
use Rattle.snl_grammar.proofs.outcome_laws.same_spelling_same_tree.Goals as goal

pub returns : goal.returns
returns c = record { kinds = same_kinds; bad = same_bad; same = same_parsed; by_spelling = parsed_spelled }
