use Rattle.std.proofs.Common.{drop, ap, ◌∙◌}
use Rattle.std.proofs.lemmas.List.{drop-drop}
use Rattle.snl_walk.proofs.visible.Visible.leave.Goals as goal

pub loop-preserved : goal.loop-preserved
loop-preserved c = let now = c.pop.ensures ∙ ap (λ v. drop 1 v) c.loop.invariant in now ∙ drop-drop 1 c.loop.counter c.args.self.now
