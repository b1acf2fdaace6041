use Rattle.std.proofs.Common.{arith}
use Rattle.snl_check.proofs.Items.{end_before, end_within}
use Rattle.snl_check.proofs.rows.text_items.TextItems.start.Goals as goal

pub returns-else-item-eq0-clause-before : goal.returns-else-item-eq0-clause-before
returns-else-item-eq0-clause-before c = end_before c.args.self.now c.args.item c.requires.program (omega (arith, c.if-item-eq0.false)) c.requires.inside

pub returns-else-item-eq0-clause-within : goal.returns-else-item-eq0-clause-within
returns-else-item-eq0-clause-within c = end_within c.args.self.now c.args.item c.requires.program c.requires.inside
