use Rattle.std.proofs.Common.{is_some, not, ap, sym, ◌∙◌, arith}
use Rattle.snl_check.specs.Collected.{items_in}
use Rattle.snl_check.proofs.Items.{count_in}
use Rattle.snl_check.proofs.Linked.{faulty_is, turned}
use Rattle.snl_check.proofs.Sets.{copied_some}
use Rattle.snl_check.proofs.reachability.members.is_faulty.Goals as goal

pub returns : goal.returns
returns c =
    let program = c.args.row_source.now.program in
    let xs = items_in program in
    turned _ _ c.is_none.ensures ∙ ap not (sym (copied_some c.tree.result) ∙ ap is_some c.tree.ensures)
    ∙ sym (faulty_is xs c.args.item (omega (arith, c.requires.item, count_in program c.requires.linked.row_source.program)))
