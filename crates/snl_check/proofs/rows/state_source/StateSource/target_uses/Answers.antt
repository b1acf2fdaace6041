use Rattle.std.proofs.Common.{Some, sym, ap, ◌∙◌}
use Rattle.std.specs.Option.{option_map_or}
use Rattle.std.proofs.lemmas.Option.{slice_get-get_or, slice_get_past}
use Rattle.snl_check.specs.Collected.{items_in}
use Rattle.snl_item_check.specs.Told.{Told, nothing, told_seen}
use Rattle.snl_check.proofs.Linked.{told_at}
use Rattle.snl_check.proofs.rows.state_source.StateSource.target_uses.Goals as goal

pub returns-then-item-self : goal.returns-then-item-self
returns-then-item-self c =
    let program = c.args.self.now.row_source.program in
    let checked = c.args.self.now.checked.now in
    sym (ap (λ o. (option_map_or told_seen o nothing).target_uses) (slice_get_past checked c.args.item c.if-item-self.true))
    ∙ ap (λ (t : Told). t.target_uses) (told_at program.text.now (items_in program) checked c.args.item c.requires.checked)

pub returns-in-Some : goal.returns-in-Some
returns-in-Some c =
    let program = c.args.self.now.row_source.program in
    let checked = c.args.self.now.checked.now in
    c.as_slice.ensures
    ∙ sym (ap (λ o. (option_map_or told_seen o nothing).target_uses) (slice_get-get_or checked c.args.item _ c.if-item-self.false ∙ ap Some c.in-Some.is))
    ∙ ap (λ (t : Told). t.target_uses) (told_at program.text.now (items_in program) checked c.args.item c.requires.checked)

pub returns-in-None : goal.returns-in-None
returns-in-None c =
    let program = c.args.self.now.row_source.program in
    let checked = c.args.self.now.checked.now in
    sym (ap (λ o. (option_map_or told_seen o nothing).target_uses) (slice_get-get_or checked c.args.item _ c.if-item-self.false ∙ ap Some c.in-None.is))
    ∙ ap (λ (t : Told). t.target_uses) (told_at program.text.now (items_in program) checked c.args.item c.requires.checked)
