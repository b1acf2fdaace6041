use Rattle.snl_scope.proofs.Untouched.{fact_stays, place_stays, target_stays, views_stay}
use Rattle.snl_scope.proofs.edited_names.unspoken_names.Goals as goal

pub returns-clause-places : goal.returns-clause-places
returns-clause-places c = place_stays

pub returns-clause-facts : goal.returns-clause-facts
returns-clause-facts c = fact_stays

pub returns-clause-targets : goal.returns-clause-targets
returns-clause-targets c = target_stays

pub returns-clause-views : goal.returns-clause-views
returns-clause-views c = views_stay
