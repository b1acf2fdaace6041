use Rattle.std.proofs.Common.{rules}
use Rattle.snl_script.proofs.SaidLemmas.{Said-written}
use Rattle.snl_script.proofs.page.Page.put.Goals as goal

pub returns-clause-said : goal.returns-clause-said
returns-clause-said g c = Said-written c.write_out.result _ _ _ _ _ _ (search rules) c.in_ok-finish.ensures.written c.write_out.ensures.written
