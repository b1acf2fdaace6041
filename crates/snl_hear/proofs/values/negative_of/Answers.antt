use Rattle.std.proofs.Common.{arith}
use Rattle.snl_hear.proofs.Seen.{number_seen}
use Rattle.snl_hear.proofs.values.negative_of.Goals as goal

pub returns : goal.returns
returns c = let number = number_seen c.args.value.now in grind arith

pub returns-in_err-as_number : goal.returns-in_err-as_number
returns-in_err-as_number c = let number = number_seen c.args.value.now in grind arith
