use Rattle.std.proofs.Common.{ap, subst, sym, ◌∙◌}
use Rattle.std.specs.Prelude.{IfSome}
use Rattle.snl_scope.specs.View.{view}
use Rattle.snl_views.specs.SameMeanings.{AreBoth}
use Rattle.snl_kept.proofs.ways.whole.recheck.BothLinks.is_known.Goals as goal

pub returns-in-Some : goal.returns-in-Some
returns-in-Some c = λ yes s.
    let both : AreBoth c.args.self.before.now.outlines c.args.self.after.now.outlines c.in-Some.same =
    subst (λ o. IfSome o (AreBoth c.args.self.before.now.outlines c.args.self.after.now.outlines)) c.in-Some.is c.requires in
    ap (λ v. view v.before c.args.before s) (sym both) ∙ c.is_known.ensures yes s ∙ ap (λ v. view v.after c.args.item s) both
