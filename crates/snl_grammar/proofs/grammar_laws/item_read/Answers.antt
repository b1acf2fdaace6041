use Rattle.snl_grammar.proofs.OneItem.{item_found, item_read}
use Rattle.snl_grammar.proofs.grammar_laws.item_read.Goals as goal

pub returns-clause-read : goal.returns-clause-read
returns-clause-read c = item_read

pub returns-clause-told : goal.returns-clause-told
returns-clause-told c = λ kinds t e. item_found kinds t e
