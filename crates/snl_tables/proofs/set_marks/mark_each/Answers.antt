use Rattle.std.proofs.Common.{◌<◌, List, length, get_or, take, ap, sym, ◌∙◌, add-one}
use Rattle.std.specs.List.{slice_set}
use Rattle.std.proofs.lemmas.List.{set-get_or}
use Rattle.std.proofs.lemmas.Option.{slice_get-get_or, slice_get_past}
use Rattle.snl_tables.specs.declared.rows.StateMark.TheVariants as StateMark
use Rattle.snl_tables.specs.declared.rows.StateRow.{StateRow}
use Rattle.snl_tables.specs.Shifted.{marked, with_own_mark}
use Rattle.snl_tables.proofs.Changing.{marked_all, marked_here, unmarked_here}
use Rattle.snl_tables.proofs.set_marks.mark_each.Goals as goal
use Rattle.snl_tables.proofs.set_marks.mark_each.Goals.{then-number-marks, else-number-marks}

pub loop-number-preserved : goal.loop-number-preserved
loop-number-preserved c =
    let marks = c.args.marks.now in
    let rows = c.args.states.now in
    let n = c.loop-number.number in
    let d = c.index-states-number.result in
    let m = get_or marks n StateMark.Faulty in
    let here : n < length rows = c.loop-number-test.true in
    let next = ap (λ k. marked (take k marks) rows) (sym (add-one n)) in
    elim c.if-number-marks.branch [
      | then-number-marks w ↦
          w.states-is ∙ ap (slice_set c.loop-number.states n) w.mark_by.ensures
          ∙ ap (λ (l : List StateRow). slice_set l n (with_own_mark m (get_or l n d))) c.loop-number.invariant
          ∙ marked_here marks rows n m d here (slice_get-get_or marks n _ w.if-number-marks.true) ∙ next
      | else-number-marks w ↦
          w.states-is ∙ set-get_or c.loop-number.states n d ∙ c.loop-number.invariant
          ∙ unmarked_here marks rows n (slice_get_past marks n w.if-number-marks.false) ∙ next
    ]

pub returns : goal.returns
returns c = c.loop-number.invariant ∙ marked_all c.args.marks.now c.args.states.now c.loop-number.number c.loop-number-test.false
