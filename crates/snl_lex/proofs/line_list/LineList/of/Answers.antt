use Rattle.std.proofs.Common.{◌≡◌, ℕ, ◌+◌, false, List, [], ◌∷◌, ◌++◌, take, get_or, sym, ap, ◌∙◌}
use Rattle.std.proofs.lemmas.List.{append-nil, take_more}
use Rattle.snl_lex.specs.declared.marker_list.Marker.{Marker}
use Rattle.snl_lex.specs.declared.piece.Class.TheVariants.{White}
use Rattle.snl_lex.specs.declared.piece.Piece.{Piece}
use Rattle.snl_lex.specs.LineList.{names, numbers}
use Rattle.snl_lex.specs.Lines.{is_marker}
use Rattle.snl_lex.proofs.MarkerLists.{marked_more, no_name, no_number}
use Rattle.snl_lex.proofs.Markers.{piece_lies}
use Rattle.snl_lex.proofs.line_list.LineList.of.Goals as goal
use Rattle.snl_lex.proofs.line_list.LineList.of.Goals.{then-is_marker+in_ok-list_marker, else-is_marker}

pub list_marker-requires : goal.list_marker-requires
list_marker-requires c = piece_lies c.args.text.now c.args.pieces.now c.requires.pieces c.loop-piece.piece-index _ c.loop-piece-test.true

pub loop-piece-preserved : goal.loop-piece-preserved
loop-piece-preserved c =
    let text : List ℕ = c.args.text.now in
    let i : ℕ = c.loop-piece.piece-index in
    let pieces : List Piece = c.args.pieces.now in
    let none : Piece = record { kind = White; start = 0; len = 0 } in
    let p : Piece = get_or pieces i none in
    let more : take (i + 1) pieces ≡ take i pieces ++ p ∷ [] = take_more pieces i none c.loop-piece-test.true in
    let markers = marked_more (numbers text) text [] c.loop-piece.markers.items (take i pieces) (take (i + 1) pieces) p c.loop-piece.invariant.markers more in
    let naming = marked_more (names text) text [] c.loop-piece.naming.items (take i pieces) (take (i + 1) pieces) p c.loop-piece.invariant.naming more in
    record {
      markers =
          elim c.if-is_marker.branch [
            | then-is_marker+in_ok-list_marker w ↦ ap (λ v. v.items) w.markers-is ∙ w.in_ok-list_marker.ensures.markers ∙ markers
            | else-is_marker w ↦
                let other : is_marker p.kind ≡ false = sym w.if-is_marker.ensures in
                ap (λ v. v.items) w.markers-is ∙ sym (append-nil _) ∙ ap (λ (l : List Marker). c.loop-piece.markers.items ++ l) (sym (no_number text p other)) ∙ markers
          ];
      naming =
          elim c.if-is_marker.branch [
            | then-is_marker+in_ok-list_marker w ↦ ap (λ v. v.items) w.naming-is ∙ w.in_ok-list_marker.ensures.naming ∙ naming
            | else-is_marker w ↦
                let other : is_marker p.kind ≡ false = sym w.if-is_marker.ensures in
                ap (λ v. v.items) w.naming-is ∙ sym (append-nil _) ∙ ap (λ (l : List Marker). c.loop-piece.naming.items ++ l) (sym (no_name text p other)) ∙ naming
          ];
    }
