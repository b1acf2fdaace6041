use Rattle.std.proofs.Common.{arith}
use Rattle.snl_lex.proofs.Table.{table_right}
use Rattle.snl_lex.proofs.alphabet.start_of.Goals as goal

pub returns : goal.returns
returns c = table_right c.args.byte (omega arith)
