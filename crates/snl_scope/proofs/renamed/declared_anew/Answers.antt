use Rattle.snl_scope.proofs.NewNames.{declares_alike, same_state_names}
use Rattle.snl_scope.proofs.renamed.declared_anew.Goals as goal

pub returns-clause-means : goal.returns-clause-means
returns-clause-means c = λ before old new after anew. declares_alike old new anew before after

pub returns-clause-names : goal.returns-clause-names
returns-clause-names c = λ before old new after anew. same_state_names old new anew before after
