use Rattle.std.proofs.Common.{leb, rules}
use Rattle.std.proofs.lemmas.List.Sorted.{IsPartitionPoint-from_clause, IsPartitionedBy-leb}
use Rattle.snl_alike.specs.declared.replacement.Replacement.{Replacement}
use Rattle.snl_alike.proofs.moves.Moves.stopped_before.Goals as goal

pub returns-clause-split : goal.returns-clause-split
returns-clause-split c =
    let parted = IsPartitionedBy-leb (λ (r : Replacement). r.stop) _ c.args.place
    c.args.self.now.stops_rise in
    IsPartitionPoint-from_clause (λ (r : Replacement). leb r.stop c.args.place) _ _
    c.partition_point.ensures.partitioned parted (λ a r q k. search rules)
