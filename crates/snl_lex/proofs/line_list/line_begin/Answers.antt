use Rattle.std.proofs.Common.{◌-◌, arith}
use Rattle.snl_lex.proofs.line_list.line_begin.Goals as goal

pub overflow_add-result : goal.overflow_add-result
overflow_add-result c = omega (arith, c.requires.below (c.args.count - 1) (omega (arith, c.requires.count, c.if-count-eq0.false)))
