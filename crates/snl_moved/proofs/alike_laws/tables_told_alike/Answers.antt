use Rattle.snl_moved.proofs.ToldAlike.{told_alike}
use Rattle.snl_moved.proofs.alike_laws.tables_told_alike.Goals as goal

pub returns : goal.returns
returns c = told_alike
