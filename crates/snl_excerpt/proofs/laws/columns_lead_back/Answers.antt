use Rattle.snl_excerpt.proofs.LeadingBack.{leads_back}
use Rattle.snl_excerpt.proofs.laws.columns_lead_back.Goals as goal

pub returns : goal.returns
returns c = leads_back
