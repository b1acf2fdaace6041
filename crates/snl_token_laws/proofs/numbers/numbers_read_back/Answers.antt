use Rattle.snl_token_laws.proofs.NumberPieces.{float_read, integer_read}
use Rattle.snl_token_laws.proofs.numbers.numbers_read_back.Goals as goal

pub returns-clause-integer : goal.returns-clause-integer
returns-clause-integer c = λ v bytes rest. integer_read bytes rest v

pub returns-clause-floating : goal.returns-clause-floating
returns-clause-floating c = float_read
