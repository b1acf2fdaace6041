use Rattle.std.proofs.Common.{sym, ◌∙◌}
use Rattle.snl_tables.proofs.Marking.{is_first, no_first}
use Rattle.snl_tables.proofs.number_set.first_within.Goals as goal

pub returns-in_err-place-clause-none : goal.returns-in_err-place-clause-none
returns-in_err-place-clause-none c = rw c.from_residual.ensures (no_first c.args.marks.now c.args.from c.args.to c.requires.inside (sym c.first_mark.ensures ∙ c.in_err-place.was))

pub returns-clause-some : goal.returns-clause-some
returns-clause-some c = is_first c.args.marks.now c.args.from c.args.to c.in_ok-place.place c.requires.ordered c.requires.inside (sym c.first_mark.ensures ∙ c.in_ok-place.was)
