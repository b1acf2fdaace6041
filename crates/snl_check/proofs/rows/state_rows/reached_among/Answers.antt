use Rattle.std.proofs.Common.{◌≡◌, ◌&&◌, length, take, sym, subst, ap₂, ◌∙◌}
use Rattle.std.specs.List.Sorted.{IsStrictlyIncreasing}
use Rattle.snl_scope.specs.BelowLaws.{all_below_rises}
use Rattle.snl_scope.specs.Order.{is_named_state}
use Rattle.snl_scope.specs.Places.{stands_in}
use Rattle.snl_check.specs.Collected.{items_in}
use Rattle.snl_check.specs.Reach.{AreStates, target_lists}
use Rattle.snl_check.specs.SetsLaws.{targets_are_states}
use Rattle.snl_check.proofs.rows.state_rows.reached_among.Goals as goal

pub targets_among-requires-clause-rising : goal.targets_among-requires-clause-rising
targets_among-requires-clause-rising c =
    let ss = c.args.state_source.now.row_source.links.now.outlines in
    subst IsStrictlyIncreasing (sym (c.deref.ensures.value ∙ c.requires.states)) (all_below_rises (λ j. is_named_state ss j && stands_in ss c.args.set j) (length ss))

pub follow-requires : goal.follow-requires
follow-requires c =
    let row_source = c.args.state_source.now.row_source in
    let count : c.len.result ≡ length c.deref.result.now = c.len.ensures ∙ sym c.deref.ensures.len in
    let taken = ap₂ (λ n rows. target_lists (take n rows)) count c.deref-2.ensures.value ∙ c.in_ok-targets_among.ensures.lists in
    subst AreStates (sym taken) (targets_are_states row_source.program.text.now (items_in row_source.program) row_source.links.now.outlines c.deref.result.now)
