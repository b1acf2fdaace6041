use Rattle.std.proofs.Common.{ℕ, ltb, rules}
use Rattle.std.proofs.lemmas.List.Sorted.{IsPartitionPoint-from_clause, IsPartitionedBy-ltb}
use Rattle.snl_lex.proofs.line_list.places_before.Goals as goal
use Rattle.snl_facts.specs.Counts.{count_at}

pub returns-clause-count : goal.returns-clause-count
returns-clause-count c =
    let parted = IsPartitionedBy-ltb (λ (e : ℕ). e) _ c.args.place c.requires in
    count_at (λ (e : ℕ). ltb e c.args.place) _ _ c.partition_point.ensures.bound
    (IsPartitionPoint-from_clause (λ (e : ℕ). ltb e c.args.place) _ _ c.partition_point.ensures.partitioned parted (λ a r q k. search rules))
