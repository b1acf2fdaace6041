use Rattle.std.proofs.Common.{◌≡◌, ℕ, suc, ◌+◌, ◌-◌, ◌<◌, false, List, [], ◌∷◌, ◌++◌, length, take, get_or, sym, ap, ◌∙◌, subst, arith}
use Rattle.std.proofs.lemmas.List.{append-nil, get_or_read}
use Rattle.snl_cut.specs.Cut.{last_end}
use Rattle.snl_lex.specs.declared.marker_list.Marker.{Marker}
use Rattle.snl_lex.specs.declared.piece.Class.{Class}
use Rattle.snl_lex.specs.declared.piece.Piece.{Piece}
use Rattle.snl_lex.specs.LineList.{marked, names, numbers}
use Rattle.snl_lex.specs.Lines.{is_marker}
use Rattle.snl_lex.specs.Edit.{made_pieces}
use Rattle.snl_lex.specs.PieceList.{listed_pieces, pieces_between}
use Rattle.snl_lex.specs.Pieces.{LiesIn}
use Rattle.snl_lex.proofs.Listed.{between_all, listed_length, listed_more, listed_piece}
use Rattle.snl_lex.proofs.MarkerLists.{marked_more, no_name, no_number}
use Rattle.snl_lex.proofs.marker_list.list_made.Goals as goal
use Rattle.snl_lex.proofs.marker_list.list_made.Goals.{then-is_marker+in_ok-list_marker, else-is_marker}
use Rattle.snl_cut.specs.CutLaws.{last_taken}

pub list_marker-requires : goal.list_marker-requires
list_marker-requires c =
    let ends : List ℕ = c.args.change.now.list.ends.items in
    let kinds : List Class = c.args.change.now.list.kinds.items in
    let n : ℕ = c.loop-number.number in
    let lt : n < length ends = omega (arith, c.len-number-end.ensures, c.args.change.now.list.ends.ok) in
    let lt_kinds : n < length kinds = omega (arith, c.requires.kinds, c.args.change.now.list.kinds.ok, c.args.change.now.list.ends.ok) in
    let p : Piece = record { kind = c.index-kind.result.now; start = c.loop-number.start; len = c.saturating_sub.result } in
    let is : get_or (made_pieces c.args.change.now) n p ≡ p =
    listed_piece c.args.change.now.made_from ends kinds n c.index.result.now c.index-kind.result.now c.loop-number.start c.saturating_sub.result p lt lt_kinds
    (get_or_read ends n _ lt c.index.ensures 0) c.index-kind.ensures c.loop-number.invariant.begun c.saturating_sub.ensures in
    subst (LiesIn c.args.text.now) is (c.requires.inside n p (listed_length c.args.change.now.made_from ends kinds (suc n) (omega arith) (omega arith)))

pub loop-number-preserved : goal.loop-number-preserved
loop-number-preserved c =
    let text : List ℕ = c.args.text.now in
    let begin : ℕ = c.args.change.now.made_from in
    let ends : List ℕ = c.args.change.now.list.ends.items in
    let kinds : List Class = c.args.change.now.list.kinds.items in
    let n : ℕ = c.loop-number.number in
    let ps : List Piece = pieces_between (listed_pieces begin ends kinds) 0 n in
    let all : List Piece = pieces_between (listed_pieces begin ends kinds) 0 (n + 1) in
    let lt : n < length ends = omega (arith, c.len-number-end.ensures, c.args.change.now.list.ends.ok) in
    let lt_kinds : n < length kinds = omega (arith, c.requires.kinds, c.args.change.now.list.kinds.ok, c.args.change.now.list.ends.ok) in
    let end_is : c.index.result.now ≡ get_or ends n 0 = get_or_read ends n _ lt c.index.ensures 0 in
    let taken : suc n ≡ n + 1 = omega arith in
    let p : Piece = record { kind = c.index-kind.result.now; start = c.loop-number.start; len = c.index.result.now - c.loop-number.start } in
    let more : all ≡ ps ++ p ∷ [] = listed_more begin ends kinds 0 n c.index.result.now c.index-kind.result.now c.loop-number.start (omega arith) lt lt_kinds end_is c.index-kind.ensures c.loop-number.invariant.begun in
    let markers = marked_more (numbers text) text c.args.markers.now.items c.loop-number.markers.items ps all p c.loop-number.invariant.markers more in
    let naming = marked_more (names text) text c.args.naming.now.items c.loop-number.naming.items ps all p c.loop-number.invariant.naming more in
    record {
      begun = end_is ∙ sym (last_taken begin ends n lt) ∙ ap (λ (m : ℕ). last_end begin (take m ends)) taken;
      markers =
          elim c.if-is_marker.branch [
            | then-is_marker+in_ok-list_marker w ↦
                let piece = ap (λ (m : ℕ). let q : Piece = record { kind = c.index-kind.result.now; start = c.loop-number.start; len = m } in marked (numbers text) text (q ∷ [])) w.saturating_sub.ensures in
                ap (λ v. v.items) w.markers-is ∙ w.in_ok-list_marker.ensures.markers ∙ ap (λ (l : List Marker). c.loop-number.markers.items ++ l) piece ∙ markers
            | else-is_marker w ↦
                let other : is_marker p.kind ≡ false = sym w.if-is_marker.ensures in
                ap (λ v. v.items) w.markers-is ∙ sym (append-nil _) ∙ ap (λ (l : List Marker). c.loop-number.markers.items ++ l) (sym (no_number text p other)) ∙ markers
          ];
      naming =
          elim c.if-is_marker.branch [
            | then-is_marker+in_ok-list_marker w ↦
                let piece = ap (λ (m : ℕ). let q : Piece = record { kind = c.index-kind.result.now; start = c.loop-number.start; len = m } in marked (names text) text (q ∷ [])) w.saturating_sub.ensures in
                ap (λ v. v.items) w.naming-is ∙ w.in_ok-list_marker.ensures.naming ∙ ap (λ (l : List Marker). c.loop-number.naming.items ++ l) piece ∙ naming
            | else-is_marker w ↦
                let other : is_marker p.kind ≡ false = sym w.if-is_marker.ensures in
                ap (λ v. v.items) w.naming-is ∙ sym (append-nil _) ∙ ap (λ (l : List Marker). c.loop-number.naming.items ++ l) (sym (no_name text p other)) ∙ naming
          ];
    }

pub returns-clause-markers : goal.returns-clause-markers
returns-clause-markers c =
    let ends : List ℕ = c.args.change.now.list.ends.items in
    let all : c.loop-number.number ≡ length ends = omega (arith, c.len-number-end.ensures, c.args.change.now.list.ends.ok) in
    c.loop-number.invariant.markers
    ∙ ap (λ (n : ℕ). c.args.markers.now.items ++ marked (numbers c.args.text.now) c.args.text.now (pieces_between (made_pieces c.args.change.now) 0 n)) all
    ∙ ap (λ (l : List Piece). c.args.markers.now.items ++ marked (numbers c.args.text.now) c.args.text.now l) (between_all c.args.change.now.made_from ends c.args.change.now.list.kinds.items)

pub returns-clause-naming : goal.returns-clause-naming
returns-clause-naming c =
    let ends : List ℕ = c.args.change.now.list.ends.items in
    let all : c.loop-number.number ≡ length ends = omega (arith, c.len-number-end.ensures, c.args.change.now.list.ends.ok) in
    c.loop-number.invariant.naming
    ∙ ap (λ (n : ℕ). c.args.naming.now.items ++ marked (names c.args.text.now) c.args.text.now (pieces_between (made_pieces c.args.change.now) 0 n)) all
    ∙ ap (λ (l : List Piece). c.args.naming.now.items ++ marked (names c.args.text.now) c.args.text.now l) (between_all c.args.change.now.made_from ends c.args.change.now.list.kinds.items)
