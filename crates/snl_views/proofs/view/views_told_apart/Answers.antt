use Rattle.snl_views.proofs.Views.{view-equal}
use Rattle.snl_views.proofs.view.views_told_apart.Goals as goal

pub returns : goal.returns
returns c = view-equal
