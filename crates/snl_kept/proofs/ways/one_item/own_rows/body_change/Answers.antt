use Rattle.std.proofs.Common.{◌≡◌, List, ap, ap₂, ◌∙◌}
use Rattle.snl_lex.specs.declared.piece.Piece.{Piece}
use Rattle.snl_tables.specs.declared.rows.StateBody.{StateBody}
use Rattle.snl_check.specs.States.{state_body}
use Rattle.snl_kept.specs.declared.plan.RowChange.TheVariants as changes
use Rattle.snl_kept.specs.declared.plan.RowPlace.{RowPlace}
use Rattle.snl_kept.specs.OneItem.{item_of, outlines_by, text_of}
use Rattle.snl_kept.specs.OwnRows.{place_in}
use Rattle.snl_kept.specs.Program.{program_item}
use Rattle.snl_kept.proofs.ways.one_item.own_rows.body_change.Goals as goal

pub returns : goal.returns
returns c =
    let one = c.args.one.now in
    let body : c.in_ok-body.body ≡ state_body (text_of one) (outlines_by one) (item_of one) (program_item (text_of one) one.own.now.is.items) =
    c.in_ok-body.ensures ∙ ap (λ (ts : List Piece). state_body (text_of one) (outlines_by one) (item_of one) (program_item (text_of one) ts)) c.as_slice.ensures.value in
    let place : c.row_of-place.result ≡ place_in (outlines_by one) c.args.set (item_of one) =
    ap₂ (λ s t. let p : RowPlace = record { set = s; state = t } in p) c.row_of-place.ensures.set c.row_of-place.ensures.state in
    ap₂ (λ (p : RowPlace) (b : StateBody). changes.Body p b) place body
