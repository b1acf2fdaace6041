use Rattle.std.proofs.Common.{sym, ◌∙◌, nat_lt}
use Rattle.snl_alike.specs.Edits.{Edit, moved_stop}
use Rattle.snl_alike.proofs.Stops.{moved_split}
use Rattle.snl_alike.proofs.moves.Moves.stops.Goals as goal

pub returns : goal.returns
unfolding moved_stop
returns c = λ yes.
    c.becomes_after.ensures yes
    ∙ sym (moved_split (λ (e : Edit). nat_lt e.start c.args.old) 0 0
    c.args.self.now.replacements.now
    c.started_before.result c.args.old c.started_before.ensures.inside
    c.started_before.ensures.split)
