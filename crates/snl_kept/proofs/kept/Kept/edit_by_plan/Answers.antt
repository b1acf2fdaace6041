use Rattle.std.proofs.Common.{◌≡◌, sym, subst}
use Rattle.snl_items.specs.declared.item_list.ItemChange.{ItemChange}
use Rattle.snl_kept.specs.declared.plan.Plan.{Plan}
use Rattle.snl_kept.specs.declared.plan.Plan.TheVariants as plan
use Rattle.snl_kept.specs.Cost.{IsCost}
use Rattle.snl_lex.specs.Edit.{Edit, edit_of}
use Rattle.snl_kept.specs.Planned.{IsPlan, work_of}
use Rattle.snl_kept.proofs.kept.Kept.edit_by_plan.Goals as goal

-- whatever is made, its cost is that of the edit
cost_of : (edit : Edit) (items : ItemChange) (p : Plan) → IsPlan edit items p → IsCost edit (work_of p)
cost_of edit items (plan.Item p) is = is.cost
cost_of edit items (plan.Whole p) is = is.cost

pub returns-clause-cost : goal.returns-clause-cost
returns-clause-cost c =
    let edit = edit_of c.args.edit.now in
    let work_is : c.work-work.result ≡ work_of c.in_ok-plan.plan = c.work-work.ensures in
    subst (IsCost edit) (sym work_is) (cost_of edit c.args.changes.now.items c.in_ok-plan.plan c.in_ok-plan.ensures.plan)
