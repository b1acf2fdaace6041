use Rattle.std.proofs.Common.{rules}
use Rattle.std.proofs.lemmas.List.Sorted.{answers_always}
use Rattle.snl_kept.proofs.Ranks.{offsets_rise, ranks, sorted_in_order}
use Rattle.snl_kept.specs.Order.{goes_before}
use Rattle.snl_kept.proofs.found.order.sort.Goals as goal

pub returns-in-Ok : goal.returns-in-Ok
returns-in-Ok c =
    let sorted = c.in-Ok.ensures.sorted goes_before ranks (answers_always _ _ _ (λ f a r f' k. search rules)) in
    record { order = sorted_in_order _ _ c.in-Ok.ensures.permutation sorted; rising = offsets_rise _ sorted }
