use Rattle.snl_grammar.proofs.Faults.{viable_item, viable_prefix}
use Rattle.snl_grammar.proofs.grammar_laws.viable_fronts.Goals as goal

pub returns-clause-whole : goal.returns-clause-whole
returns-clause-whole c = viable_item

pub returns-clause-shorter : goal.returns-clause-shorter
returns-clause-shorter c = viable_prefix
