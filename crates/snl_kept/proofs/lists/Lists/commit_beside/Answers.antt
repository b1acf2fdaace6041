use Rattle.std.proofs.Common.{Option, subst}
use Rattle.snl_lex.specs.declared.piece_list.PieceList.{PieceList}
use Rattle.snl_kept.specs.Planned.{HasRoomBeside}
use Rattle.snl_kept.proofs.lists.Lists.commit_beside.Goals as goal

pub commit_places-requires-clause-room : goal.commit_places-requires-clause-room
commit_places-requires-clause-room c =
    subst (λ (p : Option PieceList). HasRoomBeside c.args.self.now c.args.changes.now p) c.in-None.is c.requires.room
