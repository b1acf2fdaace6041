use Rattle.snl_scope.proofs.NewStateNames.{renamed_alike}
use Rattle.snl_scope.proofs.NewStateViews.{renamed_views}
use Rattle.snl_scope.proofs.renamed.named_anew.Goals as goal

pub returns-clause-means : goal.returns-clause-means
returns-clause-means c = renamed_alike

pub returns-clause-views : goal.returns-clause-views
returns-clause-views c = renamed_views
