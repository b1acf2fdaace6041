use Rattle.std.proofs.Common.{arith}
use Rattle.snl_scope.proofs.ReadOutlines.{heads_seen}
use Rattle.snl_scope.proofs.outlines.outline_list.OutlineList.count.Goals as goal

pub returns : goal.returns
returns c = omega (arith, heads_seen c.self.invariant c.self.view_is, c.len.ensures, c.self.inside.heads.ok)
