use Rattle.snl_docs.proofs.ByText.{replied_by_text}
use Rattle.snl_docs.proofs.laws.published_by_text.Goals as goal

pub returns : goal.returns
returns c = λ says s turn. replied_by_text says s turn
