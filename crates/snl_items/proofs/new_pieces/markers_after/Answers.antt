use Rattle.std.proofs.Common.{◌≡◌, ℕ, ◌-◌, List, length, take, drop, count_by, ap, ◌∙◌, arith}
use Rattle.std.proofs.lemmas.List.{length-map}
use Rattle.snl_lex.specs.Edit.{edit_of}
use Rattle.snl_lex.specs.Lines.{is_marker}
use Rattle.snl_lex.specs.PieceList.{piece_kinds}
use Rattle.snl_lex.specs.Pieces.{pieces_of}
use Rattle.snl_lex.specs.declared.piece.Class.{Class}
use Rattle.snl_items.proofs.NewPieces.{count_parted, count_three, new_kinds}
use Rattle.snl_items.proofs.new_pieces.markers_after.Goals as goal

pub overflow_sub-result : goal.overflow_sub-result
overflow_sub-result c =
    let old : List ℕ = c.args.edit.now.old.now in
    let kinds : List Class = piece_kinds old in
    let change = c.args.change.now in
    let front : ℕ = change.kept_front in
    let stop : ℕ = length kinds - change.kept_back in
    let same : c.as_slice-kinds.result.now ≡ kinds = c.as_slice-kinds.ensures.value ∙ c.requires.kinds in
    let gone = c.count_markers-gone.ensures ∙ ap (λ (l : List Class). count_by is_marker (take ((length l - change.kept_back) - front) (drop front l))) same in
    omega (arith, c.requires.markers, gone, count_parted is_marker kinds front stop (omega (arith, c.requires.change.order, length-map (pieces_of old) (λ p. p.kind))))

pub returns : goal.returns
returns c =
    let old : List ℕ = c.args.edit.now.old.now in
    let kinds : List Class = piece_kinds old in
    let change = c.args.change.now in
    let front : ℕ = change.kept_front in
    let stop : ℕ = length kinds - change.kept_back in
    let same : c.as_slice-kinds.result.now ≡ kinds = c.as_slice-kinds.ensures.value ∙ c.requires.kinds in
    let gone = c.count_markers-gone.ensures ∙ ap (λ (l : List Class). count_by is_marker (take ((length l - change.kept_back) - front) (drop front l))) same in
    let made = c.count_markers.ensures ∙ ap (count_by is_marker) c.deref.ensures.value in
    let new = ap (count_by is_marker) (new_kinds (edit_of c.args.edit.now) change c.requires.change) in
    omega (arith, c.requires.markers, gone, made, new, count_three is_marker (take front kinds) change.list.kinds.items (drop stop kinds), count_parted is_marker kinds front stop (omega (arith, c.requires.change.order, length-map (pieces_of old) (λ p. p.kind))))
