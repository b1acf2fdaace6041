use Rattle.std.proofs.Common.{◌≡◌, ◌<◌, drop}
use Rattle.snl_lex.specs.Numbers.{value_after}
use Rattle.snl_lex.proofs.numbers.value_of.Given as goal

abbrev pub invariant-loop-digit : goal.invariant-loop-digit
invariant-loop-digit l = record {
  counted : value_after l.base 0 l.digits ≡ value_after l.base l.value (drop l.digit-index l.digits);
  fits : l.value < 18446744073709551616;
}
