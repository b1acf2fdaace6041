use Rattle.std.proofs.Common.{◌≡◌, List, ap, ap₂, ◌∙◌}
use Rattle.snl_lex.specs.declared.piece.Piece.{Piece}
use Rattle.snl_tables.specs.declared.rows.StateBody.{StateBody}
use Rattle.snl_tables.specs.declared.rows.StateMark.{StateMark}
use Rattle.snl_tables.specs.declared.rows.WakeUp.{WakeUp}
use Rattle.snl_check.specs.States.{marks_of, state_body, wake_of}
use Rattle.snl_kept.specs.declared.plan.RowChange.TheVariants as changes
use Rattle.snl_kept.specs.declared.plan.RowPlace.{RowPlace}
use Rattle.snl_kept.specs.OneItem.{item_of, outlines_by, text_of}
use Rattle.snl_kept.specs.OwnRows.{place_in}
use Rattle.snl_kept.specs.Program.{items_of, program_item}
use Rattle.snl_kept.proofs.ways.one_item.own_rows.state_change.Goals as goal

pub returns : goal.returns
returns c =
    let one = c.args.one.now in
    let place_is : RowPlace = place_in (outlines_by one) c.args.set (item_of one) in
    let body_is : StateBody = state_body (text_of one) (outlines_by one) (item_of one) (program_item (text_of one) one.own.now.is.items) in
    let body : c.in_ok-body.body ≡ body_is =
    c.in_ok-body.ensures ∙ ap (λ (ts : List Piece). state_body (text_of one) (outlines_by one) (item_of one) (program_item (text_of one) ts)) c.as_slice-own.ensures.value in
    let place : c.row_of-place.result ≡ place_is =
    ap₂ (λ s t. let p : RowPlace = record { set = s; state = t } in p) c.row_of-place.ensures.set c.row_of-place.ensures.state in
    let wake : c.in_ok-wake.wake ≡ wake_of (text_of one) (items_of (text_of one)) (outlines_by one) (item_of one) = c.in_ok-wake.ensures in
    let marks : c.in_ok-marks.marks ≡ marks_of (text_of one) (items_of (text_of one)) (outlines_by one) c.args.set = c.in_ok-marks.ensures in
    ap₂ (λ (p : RowPlace) (b : StateBody). changes.State p b c.in_ok-wake.wake c.in_ok-marks.marks) place body
    ∙ ap₂ (λ (w : List WakeUp) (m : List StateMark). changes.State place_is body_is w m) wake marks
