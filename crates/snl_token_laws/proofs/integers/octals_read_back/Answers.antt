use Rattle.snl_token_laws.proofs.NumberRuns.{octal_piece}
use Rattle.snl_token_laws.proofs.Values.{octal_value}
use Rattle.snl_token_laws.proofs.integers.octals_read_back.Goals as goal

pub returns-clause-value : goal.returns-clause-value
returns-clause-value c = octal_value

pub returns-clause-piece : goal.returns-clause-piece
returns-clause-piece c = octal_piece
