use Rattle.std.proofs.Common.{ℕ, ltb, rules}
use Rattle.std.proofs.lemmas.List.Sorted.{IsPartitionPoint-from_clause, IsPartitionedBy-ltb}
use Rattle.snl_items.proofs.InFront.{below_at, in_order}
use Rattle.snl_items.proofs.in_front.ends_before.Goals as goal

pub returns-clause-count : goal.returns-clause-count
returns-clause-count c = λ rises.
    let parted = IsPartitionedBy-ltb (λ (e : ℕ). e) _ c.args.place (in_order 0 c.args.ends.now rises) in
    below_at c.args.place c.args.ends.now _ c.partition_point.ensures.bound
    (IsPartitionPoint-from_clause (λ (e : ℕ). ltb e c.args.place) _ _ c.partition_point.ensures.partitioned parted (λ a r q k. search rules))
