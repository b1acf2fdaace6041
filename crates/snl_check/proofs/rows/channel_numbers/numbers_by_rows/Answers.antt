use Rattle.std.proofs.Common.{◌≡◌, [], get_or, sym, subst, ◌∙◌}
use Rattle.std.proofs.lemmas.List.{get_or_default}
use Rattle.snl_check.specs.Numbered.{AddsAll, HoldsBelow}
use Rattle.snl_check.proofs.WakesByTable.{tells_nothing, holds_one_more}
use Rattle.snl_check.proofs.rows.channel_numbers.numbers_by_rows.Goals as goal

pub loop-variable-init : goal.loop-variable-init
loop-variable-init c = subst (λ held. HoldsBelow held c.args.rows.now c.args.lists.now 0) (sym c.new-numbers.ensures) (tells_nothing c.args.rows.now c.args.lists.now)

pub loop-variable-preserved : goal.loop-variable-preserved
loop-variable-preserved c =
    let lists = c.args.lists.now in
    let n = c.loop-variable.variable in
    let list : c.as_slice.result.now ≡ get_or lists n [] =
    c.as_slice.ensures ∙ c.index-lists-variable.is ∙ get_or_default lists n c.index-lists-variable.result [] c.loop-variable-test.true in
    holds_one_more c.loop-variable.numbers c.add_rows.new.self c.args.rows.now lists n c.loop-variable.invariant
    (subst (AddsAll c.loop-variable.numbers c.add_rows.new.self n c.args.rows.now) list c.in_ok-add_rows.ensures)
