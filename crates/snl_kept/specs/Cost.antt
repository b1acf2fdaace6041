-- What an edit cost.
use Rattle.std.specs.Prelude.{◌≡◌, length}
use Rattle.snl_kept.specs.declared.work.Work.{Work}
use Rattle.snl_items.specs.Fresh.{fresh_items_of, fresh_pieces_of}
use Rattle.snl_lex.specs.Edit.{Edit}
use Rattle.snl_kept.specs.Stirred.{stirred_of}

-- The pieces that are fresh, the items that are, and those that are stirred.
pub record IsCost (edit : Edit) (work : Work) : Type 0 where
  pub lexed : work.lexed ≡ fresh_pieces_of edit
  pub parsed : work.parsed ≡ length (fresh_items_of edit)
  pub checked : work.checked ≡ stirred_of edit
