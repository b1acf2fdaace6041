use Rattle.std.proofs.Common.{◌≡◌, take}
use Rattle.std.specs.Prelude.{IfSome}
use Rattle.snl_lex.specs.Lines.{sets_line, last_that}
use Rattle.snl_lex.specs.Pieces.{LiesIn}
use Rattle.snl_lex.proofs.lines.last_setter.Given as goal

abbrev pub invariant-loop-piece : goal.invariant-loop-piece
invariant-loop-piece l = record {
  last : l.last ≡ last_that (sets_line l.text l.offset) (take l.piece-index l.pieces);
  lies : IfSome l.last (LiesIn l.text);
}
