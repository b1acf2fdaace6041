use Rattle.std.proofs.Common.{arith, ◌∙◌}
use Rattle.snl_excerpt.proofs.ColumnLemmas.{counted-between}
use Rattle.snl_excerpt.proofs.column.Cursor.forward.Goals as goal

pub returns-clause-cursor : goal.returns-clause-cursor
returns-clause-cursor c = record {
  inside = c.requires.inside;
  before = c.counted_on-before.ensures.value ∙ counted-between c.args.text.now c.args.self.offset c.args.offset c.args.self.before c.requires.order c.requires.cursor.before;
  few = omega (arith, c.counted_on-before.ensures.few, c.requires.cursor.few);
}
