use Rattle.std.proofs.Common.{ℕ, ltb, rules}
use Rattle.std.proofs.lemmas.List.Sorted.{IsPartitionPoint-from_clause, IsPartitionedBy-ltb}
use Rattle.snl_place.proofs.line_places.count_before.Goals as goal
use Rattle.snl_facts.specs.Counts.{count_at}

pub returns-clause-count : goal.returns-clause-count
returns-clause-count c =
    let before = λ (e : ℕ). ltb e c.args.offset in
    let parted = IsPartitionedBy-ltb (λ (e : ℕ). e) _ c.args.offset c.requires in
    let clause = c.partition_point.ensures.partitioned in
    count_at before _ _ c.partition_point.ensures.bound
    (IsPartitionPoint-from_clause before _ _ clause parted (λ a r q k. search rules))
