use Rattle.std.proofs.Common.{◌∙◌, nat_eq, subst, sym, ap}
use Rattle.std.specs.List.{list_any}
use Rattle.snl_items.specs.Items.{marks_of}
use Rattle.snl_kept.specs.Shifted.{PartsNoItem}
use Rattle.snl_kept.proofs.Sides.{ends_there, on_one_side}
use Rattle.snl_kept.proofs.ways.shift.parts_none.Goals as goal

pub returns-then-parts_no_item : goal.returns-then-parts_no_item
returns-then-parts_no_item c passed =
    on_one_side c.args.place c.args.text.now c.args.before c.requires.front c.requires.back
    (subst (PartsNoItem c.args.before) (c.deref.ensures.value ∙ c.requires.lists.items) (c.parts_no_item.ensures passed))

pub returns-else-parts_no_item : goal.returns-else-parts_no_item
returns-else-parts_no_item c passed =
    let text = c.args.text.now in
    let before = c.args.before in
    ends_there c.args.place text before c.requires.front c.requires.back (c.ends_in_order.ensures.rise (marks_of text))
    (ap (list_any (λ e. nat_eq e before)) (sym (c.deref-else-parts_no_item.ensures.value ∙ c.requires.lists.items)) ∙ sym c.is_end.ensures ∙ passed)
