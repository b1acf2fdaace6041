use Rattle.std.proofs.Common.{◌≡◌, take}
use Rattle.std.specs.Prelude.{IfSome}
use Rattle.snl_lex.specs.Lines.{names_file, last_that}
use Rattle.snl_lex.specs.Pieces.{LiesIn}
use Rattle.snl_lex.proofs.lines.last_name.Given as goal

abbrev pub invariant-loop-piece : goal.invariant-loop-piece
invariant-loop-piece l = record {
  last : l.last ≡ last_that (names_file l.text l.offset) (take l.piece-index l.pieces);
  lies : IfSome l.last (LiesIn l.text);
}
