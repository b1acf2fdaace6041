use Rattle.snl_grammar.proofs.Faults.{fault_at}
use Rattle.snl_grammar.proofs.grammar_laws.blamed_at_fault.Goals as goal

pub returns : goal.returns
returns c = fault_at
