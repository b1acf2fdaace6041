use Rattle.std.proofs.Common.{ltb, rules}
use Rattle.std.proofs.lemmas.List.Sorted.{IsPartitionPoint-from_clause, IsPartitionedBy-ltb}
use Rattle.snl_lex.specs.declared.marker_list.Marker.{Marker}
use Rattle.snl_lex.proofs.marker_list.markers_before.Goals as goal
use Rattle.snl_facts.specs.Counts.{count_at}

pub returns-clause-count : goal.returns-clause-count
returns-clause-count c =
    let parted = IsPartitionedBy-ltb (λ (m : Marker). m.end) _ c.args.place c.requires in
    count_at (λ (m : Marker). ltb m.end c.args.place) _ _ c.partition_point.ensures.bound
    (IsPartitionPoint-from_clause (λ (m : Marker). ltb m.end c.args.place) _ _ c.partition_point.ensures.partitioned parted (λ a r q k. search rules))
