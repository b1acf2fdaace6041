use Rattle.std.proofs.Common.{arith}
use Rattle.snl_names.proofs.Ends.{start_at}
use Rattle.snl_names.proofs.spellings.start_of.Goals as goal

pub returns-else-number-eq0 : goal.returns-else-number-eq0
returns-else-number-eq0 c = start_at c.args.ends.now c.args.number (omega arith) c.requires
