use Rattle.std.proofs.Common.{sym, ◌∙◌, nat_le}
use Rattle.snl_alike.specs.Edits.{Edit, moved_start}
use Rattle.snl_alike.proofs.Stops.{moved_split}
use Rattle.snl_alike.proofs.moves.Moves.starts.Goals as goal

pub returns : goal.returns
unfolding moved_start
returns c = λ yes.
    c.becomes_after.ensures yes
    ∙ sym (moved_split (λ (e : Edit). nat_le e.stop c.args.old) 0 0 c.args.self.now.replacements.now
    c.stopped_before.result c.args.old c.stopped_before.ensures.inside
    c.stopped_before.ensures.split)
