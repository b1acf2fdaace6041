use Rattle.std.proofs.Common.{ltb, rules}
use Rattle.std.proofs.lemmas.List.Sorted.{IsPartitionPoint-from_clause, IsPartitionedBy-ltb}
use Rattle.snl_alike.specs.declared.replacement.Replacement.{Replacement}
use Rattle.snl_alike.proofs.moves.Moves.started_before.Goals as goal

pub returns-clause-split : goal.returns-clause-split
returns-clause-split c =
    let parted = IsPartitionedBy-ltb (λ (r : Replacement). r.start) _ c.args.place
    c.args.self.now.starts_rise in
    IsPartitionPoint-from_clause (λ (r : Replacement). ltb r.start c.args.place) _ _
    c.partition_point.ensures.partitioned parted (λ a r q k. search rules)
