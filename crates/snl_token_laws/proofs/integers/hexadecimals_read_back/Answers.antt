use Rattle.snl_token_laws.proofs.NumberRuns.{hexadecimal_piece}
use Rattle.snl_token_laws.proofs.Values.{hexadecimal_value}
use Rattle.snl_token_laws.proofs.integers.hexadecimals_read_back.Goals as goal

pub returns-clause-value : goal.returns-clause-value
returns-clause-value c = hexadecimal_value

pub returns-clause-piece : goal.returns-clause-piece
returns-clause-piece c = hexadecimal_piece
