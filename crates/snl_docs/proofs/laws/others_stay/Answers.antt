use Rattle.snl_docs.proofs.Elsewhere.{kept_elsewhere}
use Rattle.snl_docs.proofs.laws.others_stay.Goals as goal

pub returns : goal.returns
returns c = λ s turn uri elsewhere. kept_elsewhere s turn uri elsewhere
