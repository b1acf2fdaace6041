use Rattle.std.proofs.Common.{sym, ap, ◌∙◌, List}
use Rattle.snl_walk.specs.Few.{nearest}
use Rattle.snl_walk.specs.Scopes.{look_up}
use Rattle.snl_walk.specs.declared.visible.FewName.{FewName}
use Rattle.snl_walk.proofs.Few.{look_up-above, look_up-below}
use Rattle.snl_walk.proofs.visible.Visible.get.Goals as goal

pub returns-in-Some : goal.returns-in-Some
returns-in-Some c =
    let name = c.args.name.now in
    sym (look_up-above name c.self.inside.more (nearest c.self.inside.few.items) c.in-Some.declared (sym c.in-Some.ensures))
    ∙ ap (λ v. look_up name v) c.self.view_is

pub returns-in-None : goal.returns-in-None
returns-in-None c =
    let name = c.args.name.now in
    c.meant_by.ensures
    ∙ ap (λ (l : List FewName). look_up name (nearest l)) c.deref.ensures.value
    ∙ sym (look_up-below name c.self.inside.more (nearest c.self.inside.few.items) (sym c.in-None.ensures))
    ∙ ap (λ v. look_up name v) c.self.view_is
