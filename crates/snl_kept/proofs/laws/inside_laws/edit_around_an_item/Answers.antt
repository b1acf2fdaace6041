use Rattle.std.proofs.Common.{ℕ, false}
use Rattle.snl_lex.specs.LineShift.{moved_line}
use Rattle.snl_kept.specs.Checks.{outlines_in}
use Rattle.snl_kept.specs.ItemPlan.{own_item}
use Rattle.snl_kept.specs.OwnRows.{change_told}
use Rattle.snl_kept.specs.Program.{items_of}
use Rattle.snl_kept.specs.Tables.{tables_in}
use Rattle.snl_kept.specs.declared.ways.one_item.touched_rows.TouchedRows.TheVariants as touched
use Rattle.snl_kept.proofs.InsideLaws.{after_change, named_as, sound_as_it_was}
use Rattle.snl_kept.proofs.TextSpans.{items_are_read}
use Rattle.snl_kept.proofs.laws.inside_laws.edit_around_an_item.Goals as goal

pub returns : goal.returns
unfolding tables_in
returns c = λ edit changes t x e inside spares faults named same.
    let old = edit.old in
    let text = edit.text in
    let one = c.one_item_replaced.ensures edit changes t x e inside in
    let j : ℕ = changes.items.kept_front in
    let read = items_are_read old (c.text_in_pieces.ensures.inside old) in
    let named_here = named_as edit changes t x e one false named in
    let sound = sound_as_it_was edit changes t x e one same in
    let tables = c.tables_move_around_an_item.ensures old text t.by (moved_line t) (items_of old) (items_of text) j one.inside.shift.some_before read one.one named_here sound in
    after_change edit changes t x e one c.findings_around_an_item.ensures.found c.findings_around_an_item.ensures.warnings c.diagnostics_are_found.ensures
    (change_told text (items_of text) (outlines_in old) j (own_item text j) touched.Nothing) spares faults tables
