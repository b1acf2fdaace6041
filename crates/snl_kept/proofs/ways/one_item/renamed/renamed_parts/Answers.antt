use Rattle.std.proofs.Common.{ℕ, refl, subst, sym}
use Rattle.snl_scope.specs.Linked.{faults_of}
use Rattle.snl_kept.specs.Checks.{links_in}
use Rattle.snl_kept.specs.ItemPlan.{FitsRows}
use Rattle.snl_kept.specs.OneItem.{item_of, old_of, text_of}
use Rattle.snl_kept.specs.ReplacedItem.{SparesInside}
use Rattle.snl_kept.specs.declared.ways.one_item.touched_rows.TouchedRows.{TouchedRows}
use Rattle.snl_kept.proofs.ways.one_item.renamed.renamed_parts.Goals as goal

pub parts_of_renamed-requires-clause-spared : goal.parts_of_renamed-requires-clause-spared
parts_of_renamed-requires-clause-spared c =
    let one = c.args.one.now in
    subst (λ (head : ℕ). SparesInside head (item_of one) (faults_of (links_in (old_of one)))) c.requires.head (c.if-not-is_replaced.ensures.spared refl)

pub parts_of_renamed-requires-clause-row : goal.parts_of_renamed-requires-clause-row
parts_of_renamed-requires-clause-row c =
    let one = c.args.one.now in
    subst (λ (rows : TouchedRows). FitsRows (old_of one) (text_of one) (item_of one) one.own.now c.args.was c.args.entry.now rows) (sym c.in-Some-renamed_rows.ensures) c.in_ok-touched.ensures
