use Rattle.std.proofs.Common.{ap, length, arith}
use Rattle.snl_scope.proofs.ReadOutlines.{heads_seen, numbered_told, outline_told, reads_at}
use Rattle.snl_scope.proofs.outlines.outline_list.OutlineList.told.Goals as goal

pub index-head-requires : goal.index-head-requires
index-head-requires c = omega (arith, heads_seen c.self.invariant c.self.view_is, c.requires.inside, c.self.inside.heads.ok)

pub part-requires : goal.part-requires
part-requires c =
    let reads = reads_at c.self.invariant c.self.view_is c.requires.inside c.requires.at c.index-head.ensures in
    omega (arith, reads.declares.within, ap length c.deref.ensures.value, c.self.invariant.declares)

pub part-requires-2 : goal.part-requires-2
part-requires-2 c =
    let reads = reads_at c.self.invariant c.self.view_is c.requires.inside c.requires.at c.index-head.ensures in
    omega (arith, reads.clauses.within, ap length c.deref-2.ensures.value, c.self.invariant.clauses)

pub returns-clause-outline : goal.returns-clause-outline
returns-clause-outline c =
    let reads = reads_at c.self.invariant c.self.view_is c.requires.inside c.requires.at c.index-head.ensures in
    outline_told c.self.invariant c.self.view_is reads c.part.ensures c.deref.ensures.value c.part-2.ensures c.deref-2.ensures.value

pub returns-clause-numbered : goal.returns-clause-numbered
returns-clause-numbered c =
    let reads = reads_at c.self.invariant c.self.view_is c.requires.inside c.requires.at c.index-head.ensures in
    numbered_told c.self.invariant c.self.view_is reads c.part.ensures c.deref.ensures.value c.part-2.ensures c.deref-2.ensures.value
