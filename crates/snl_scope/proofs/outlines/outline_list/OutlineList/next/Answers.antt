use Rattle.std.proofs.Common.{arith}
use Rattle.snl_scope.proofs.ReadOutlines.{heads_seen, next_at, reads_at}
use Rattle.snl_scope.proofs.outlines.outline_list.OutlineList.next.Goals as goal

pub index-head-requires : goal.index-head-requires
index-head-requires c = omega (arith, heads_seen c.self.invariant c.self.view_is, c.requires.inside, c.self.inside.heads.ok)

pub overflow_add-result : goal.overflow_add-result
overflow_add-result c = omega (arith, heads_seen c.self.invariant c.self.view_is, c.requires.inside, c.self.inside.heads.ok)

pub overflow_add-result-2 : goal.overflow_add-result-2
overflow_add-result-2 c =
    let reads = reads_at c.self.invariant c.self.view_is c.requires.inside c.requires.at c.index-head.ensures in
    omega (arith, reads.declares.within, c.self.invariant.declares, c.self.inside.declares.ok)

pub overflow_add-result-3 : goal.overflow_add-result-3
overflow_add-result-3 c =
    let reads = reads_at c.self.invariant c.self.view_is c.requires.inside c.requires.at c.index-head.ensures in
    omega (arith, reads.clauses.within, c.self.invariant.clauses, c.self.inside.clauses.ok)

pub returns-clause-at : goal.returns-clause-at
returns-clause-at c =
    next_at c.self.invariant c.self.view_is
    (reads_at c.self.invariant c.self.view_is c.requires.inside c.requires.at c.index-head.ensures)
