use Rattle.std.proofs.Common.{ℕ, Bool, cond, List, take, get_or, Option, Some, sym, ap, ◌∙◌, subst}
use Rattle.std.specs.Prelude.{IfSome}
use Rattle.snl_lex.specs.declared.piece.Class.TheVariants.{White}
use Rattle.snl_lex.specs.declared.piece.Piece.{Piece}
use Rattle.snl_lex.specs.Lines.{sets_line, last_that}
use Rattle.snl_lex.specs.Pieces.{LiesIn}
use Rattle.snl_lex.proofs.Markers.{last_more, piece_lies}
use Rattle.snl_lex.proofs.lines.last_setter.Goals as goal
use Rattle.snl_lex.proofs.lines.last_setter.Goals.{then-sets_line, else-sets_line}

pub sets_line-requires : goal.sets_line-requires
sets_line-requires c = piece_lies c.args.text.now c.args.pieces.now c.requires c.loop-piece.piece-index _ c.loop-piece-test.true

pub loop-piece-preserved : goal.loop-piece-preserved
loop-piece-preserved c =
    let text : List ℕ = c.args.text.now in
    let pieces : List Piece = c.args.pieces.now in
    let i : ℕ = c.loop-piece.piece-index in
    let d : Piece = record { kind = White; start = 0; len = 0 } in
    let piece : Piece = get_or pieces i d in
    let test : Piece → Bool = sets_line text c.args.offset in
    let before : Option Piece = last_that test (take i pieces) in
    let step = last_more test pieces i d c.loop-piece-test.true in
    let lies : LiesIn text piece = piece_lies text pieces c.requires i d c.loop-piece-test.true in
    let choose : Bool → Option Piece = λ (b : Bool). cond b (Some piece) before in
    elim c.if-sets_line.branch [
      | then-sets_line w ↦ record { last = w.last-is ∙ sym (step ∙ ap choose (sym w.if-sets_line.ensures)); lies = subst (λ (o : Option Piece). IfSome o (LiesIn text)) (sym w.last-is) lies }
      | else-sets_line w ↦
          record {
            last = w.last-is ∙ (c.loop-piece.invariant.last ∙ sym (step ∙ ap choose (sym w.if-sets_line.ensures)));
            lies = subst (λ (o : Option Piece). IfSome o (LiesIn text)) (sym w.last-is) c.loop-piece.invariant.lies;
          }
    ]
