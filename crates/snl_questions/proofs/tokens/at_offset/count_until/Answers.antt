use Rattle.std.proofs.Common.{ℕ, leb, rules}
use Rattle.std.proofs.lemmas.List.Sorted.{IsPartitionPoint-from_clause, IsPartitionedBy-leb}
use Rattle.snl_questions.proofs.tokens.at_offset.count_until.Goals as goal

pub returns : goal.returns
returns c = λ rise.
    let until = λ (e : ℕ). leb e c.args.offset in
    let parted = IsPartitionedBy-leb (λ (e : ℕ). e) _ c.args.offset rise in
    IsPartitionPoint-from_clause until _ _ c.partition_point.ensures.partitioned parted
    (λ a r q k. search rules)
