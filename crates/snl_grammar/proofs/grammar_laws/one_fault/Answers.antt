use Rattle.snl_grammar.proofs.Faults.{one_fault}
use Rattle.snl_grammar.proofs.grammar_laws.one_fault.Goals as goal

pub returns : goal.returns
returns c = one_fault
