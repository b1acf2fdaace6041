use Rattle.std.proofs.Common.{arith}
use Rattle.snl_facts.proofs.Alike.{equal}
use Rattle.snl_facts.proofs.bytes.are_same_bytes.Goals as goal

pub returns : goal.returns
returns c = equal c.args.left.now c.args.right.now c.loop-at.at (omega arith) (omega arith) c.loop-at.invariant
