use Rattle.std.proofs.Common.{arith}
use Rattle.snl_names.proofs.Ends.{same_count}
use Rattle.snl_names.proofs.spellings.Spellings.count.Goals as goal

pub returns : goal.returns
returns c =
    omega (arith, c.len.ensures, c.self.inside.ends.ok, same_count c.self.inside.bytes.items c.self.inside.ends.items c.args.self.now c.self.view_is)
