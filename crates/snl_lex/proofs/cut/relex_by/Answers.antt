use Rattle.snl_lex.proofs.Recutting.{old_walk, relexed_as}
use Rattle.snl_lex.proofs.cut.relex_by.Goals as goal

pub recut_noted-requires-clause-old_cut : goal.recut_noted-requires-clause-old_cut
recut_noted-requires-clause-old_cut g c = rw c.requires.old_ends (old_walk c.args.old_text.now)

pub returns-clause-relexed : goal.returns-clause-relexed
returns-clause-relexed g c =
    relexed_as c.args.old_text.now c.args.text.now (g.E.Ends.listed c.args.old.now) c.args.start c.args.old_stop c.args.new_stop c.in_ok-relexed.relexed.kept_front c.in_ok-relexed.relexed.made.items c.in_ok-relexed.relexed.notes.items
    c.in_ok-relexed.relexed.kept_back c.requires.edit c.requires.old_ends c.in_ok-relexed.ensures.recut c.in_ok-relexed.ensures.notes
