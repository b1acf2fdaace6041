use Rattle.std.proofs.Common.{false, get_or, ap, ◌∙◌}
use Rattle.snl_check.proofs.rows.state_rows.state_rows.Goals as goal

pub rows_among-requires-clause-reached : goal.rows_among-requires-clause-reached
rows_among-requires-clause-reached c = λ clear n here. ap (λ l. get_or l n false) c.deref.ensures.value ∙ c.in_ok-reached_among.ensures clear n here
