use Rattle.snl_finding_laws.proofs.Files.{files_lie}
use Rattle.snl_finding_laws.proofs.place_laws.files_lie_in_text.Goals as goal

pub returns : goal.returns
returns c = λ text. files_lie text (c.text_in_pieces.ensures.inside text)
