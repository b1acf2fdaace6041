use Rattle.snl_token_laws.proofs.MarkerNumbers.{line_number, plain_number}
use Rattle.snl_token_laws.proofs.lines.markers_read_back.Goals as goal

pub returns-clause-plain : goal.returns-clause-plain
returns-clause-plain c = plain_number

pub returns-clause-with_word : goal.returns-clause-with_word
returns-clause-with_word c = line_number
