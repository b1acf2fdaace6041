use Rattle.std.proofs.Common.{arith, rules}
use Rattle.std.proofs.lemmas.Fmt.{length-decimal-le}
use Rattle.snl_say.proofs.before.number_before.Goals as goal

pub write_digits-requires : goal.write_digits-requires
write_digits-requires c = search (rules, length-decimal-le 20)

pub returns-clause-few : goal.returns-clause-few
returns-clause-few c =
    omega (arith, length-decimal-le 20 c.args.number (omega arith) (omega arith) (omega arith))
