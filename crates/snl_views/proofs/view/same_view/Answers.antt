use Rattle.std.proofs.Common.{◌≡◌, ◌↔◌, Bool, IsTrue, subst, sym}
use Rattle.snl_scope.specs.View.{view}
use Rattle.snl_views.proofs.Views.{view-equal}
use Rattle.snl_views.proofs.view.same_view.Goals as goal

pub returns-clause-equal : goal.returns-clause-equal
returns-clause-equal c =
    let ss = c.args.old.now.outlines in
    let ts = c.args.new.now.outlines in
    let s = c.args.summary.now in
    let Tells : Bool → Type 0 = λ b. IsTrue b ↔ (view ss c.args.old_item s ≡ view ts c.args.new_item s) in
    subst Tells (sym c.sees_the_same.ensures) (view-equal ss c.args.old_item ts c.args.new_item s)
