use Rattle.std.proofs.Common.{◌∙◌, ap, arith}
use Rattle.std.specs.List.{fold}
use Rattle.std.proofs.lemmas.List.{take_all}
use Rattle.snl_names.specs.Prints.{print_of, with_byte}
use Rattle.snl_names.proofs.prints.print_of.Goals as goal

pub returns : goal.returns
unfolding print_of
returns c = c.loop-byte.invariant ∙ ap (fold with_byte 0) (take_all c.loop-byte.byte-index c.args.name.now (omega arith))
