use Rattle.snl_table_laws.proofs.InOrder.{in_order, sets_free}
use Rattle.snl_table_laws.proofs.order_laws.items_with_places_are_ordered.Goals as goal

pub returns-clause-outside : goal.returns-clause-outside
returns-clause-outside c = in_order

pub returns-clause-sets : goal.returns-clause-sets
returns-clause-sets c = sets_free
