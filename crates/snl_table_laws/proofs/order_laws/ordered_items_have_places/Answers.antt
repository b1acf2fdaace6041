use Rattle.snl_table_laws.proofs.InOrder.{none_found, none_outside}
use Rattle.snl_table_laws.proofs.order_laws.ordered_items_have_places.Goals as goal

pub returns-clause-outside : goal.returns-clause-outside
returns-clause-outside c = none_outside

pub returns-clause-all : goal.returns-clause-all
returns-clause-all c = none_found
