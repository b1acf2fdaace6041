use Rattle.snl_shown.specs.Shown.{says_of_text}
use Rattle.snl_shown.proofs.laws.diagnostics_by_text.Goals as goal

pub returns : goal.returns
returns c = λ s turn. c.published_by_text.ensures says_of_text s turn
