use Rattle.snl_grammar.proofs.OneItem.{one_item}
use Rattle.snl_grammar.proofs.grammar_laws.one_item.Goals as goal

pub returns : goal.returns
returns c = one_item
