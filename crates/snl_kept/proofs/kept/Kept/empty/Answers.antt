use Rattle.snl_kept.proofs.Nothing.{no_pieces}
use Rattle.snl_kept.proofs.kept.Kept.empty.Goals as goal

pub of-requires : goal.of-requires
of-requires c = record { pieces = no_pieces }
