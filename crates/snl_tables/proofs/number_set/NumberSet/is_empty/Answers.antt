use Rattle.std.proofs.Common.{rules, ◌∙◌}
use Rattle.snl_tables.proofs.Marking.{none_found}
use Rattle.snl_tables.proofs.number_set.NumberSet.is_empty.Goals as goal

pub returns-clause-value : goal.returns-clause-value
returns-clause-value c = none_found c.deref.result.now c.args.self.now c.first_from.result c.is_none.result (c.deref.ensures.value ∙ c.self.view_is) (search rules) c.first_from.ensures.first
