use Rattle.std.proofs.Common.{subst}
use Rattle.snl_names.specs.NameBook.{AllDiffer}
use Rattle.snl_scope.proofs.outlines.outline_list.OutlineList.differ.Goals as goal

pub returns : goal.returns
returns c = subst (λ v. AllDiffer v.names) c.self.view_is c.differ.ensures
