use Rattle.snl_grammar.proofs.ItemEnds.{whole_ends}
use Rattle.snl_grammar.proofs.grammar_laws.whole_items_end.Goals as goal

pub returns : goal.returns
returns c = λ depth tokens left t e. whole_ends depth tokens t left e
