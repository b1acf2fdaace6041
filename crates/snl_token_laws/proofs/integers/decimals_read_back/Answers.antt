use Rattle.snl_token_laws.proofs.NumberRuns.{decimal_piece}
use Rattle.snl_token_laws.proofs.Values.{decimal_value}
use Rattle.snl_token_laws.proofs.integers.decimals_read_back.Goals as goal

pub returns-clause-value : goal.returns-clause-value
returns-clause-value c = decimal_value

pub returns-clause-piece : goal.returns-clause-piece
returns-clause-piece c = decimal_piece
