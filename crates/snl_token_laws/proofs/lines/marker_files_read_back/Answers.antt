use Rattle.snl_token_laws.proofs.MarkerFiles.{name_read, read_back}
use Rattle.snl_token_laws.proofs.MarkerLines.{file_after}
use Rattle.snl_token_laws.proofs.lines.marker_files_read_back.Goals as goal

pub returns-clause-number : goal.returns-clause-number
returns-clause-number c = λ n file bytes is. (read_back bytes n file is).number

pub returns-clause-named : goal.returns-clause-named
returns-clause-named c = λ n file bytes is. name_read bytes n file (read_back bytes n file is)

pub returns-clause-file : goal.returns-clause-file
returns-clause-file c = λ text. file_after text (c.text_in_pieces.ensures.inside text) (c.text_in_pieces.ensures.class text)
