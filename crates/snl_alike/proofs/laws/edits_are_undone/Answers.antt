use Rattle.snl_alike.proofs.Undone.{undone_all}
use Rattle.snl_alike.proofs.laws.edits_are_undone.Goals as goal

pub returns : goal.returns
returns c = undone_all
