use Rattle.std.proofs.Common.{count_by, ap, ◌∙◌}
use Rattle.snl_lex.specs.Lines.{is_marker}
use Rattle.snl_lex.proofs.OpenedPieces.{opened_ends, opened_kinds}
use Rattle.snl_lex.proofs.piece_list.PieceChange.into_list.Goals as goal

pub returns-clause-ends : goal.returns-clause-ends
returns-clause-ends c = λ e nothing change. opened_ends e c.args.self nothing change

pub returns-clause-kinds : goal.returns-clause-kinds
returns-clause-kinds c = λ e nothing change. opened_kinds e c.args.self nothing change

pub returns-clause-markers : goal.returns-clause-markers
returns-clause-markers c = λ e nothing change. c.count_markers.ensures ∙ ap (count_by is_marker) (c.deref.ensures.value ∙ opened_kinds e c.args.self nothing change)
