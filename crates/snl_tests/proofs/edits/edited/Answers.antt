use Rattle.snl_tests.proofs.Edited.{edited_edit}
use Rattle.snl_tests.proofs.edits.edited.Goals as goal

pub returns : goal.returns
returns c = edited_edit c.args.text.now c.args.new.now c.in_ok-now.now.items c.args.start c.args.stop c.requires.order c.requires.inside c.in_ok-now.ensures
