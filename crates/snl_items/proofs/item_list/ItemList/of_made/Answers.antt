use Rattle.snl_items.proofs.OpenedItems.{opened_ends, opened_marks}
use Rattle.snl_items.proofs.item_list.ItemList.of_made.Goals as goal

pub returns-clause-marks : goal.returns-clause-marks
returns-clause-marks c = λ e nothing change. opened_marks e c.args.tokens nothing change

pub returns-clause-ends : goal.returns-clause-ends
returns-clause-ends c = λ e t nothing change. opened_ends e t c.args.items nothing change
