use Rattle.std.proofs.Common.{subst}
use Rattle.snl_names.specs.NameBook.{AllDiffer}
use Rattle.snl_names.proofs.name_book.NameBook.differ.Goals as goal

pub returns : goal.returns
returns c =
    subst AllDiffer c.self.view_is c.self.invariant.different
