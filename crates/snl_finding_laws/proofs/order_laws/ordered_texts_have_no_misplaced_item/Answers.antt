use Rattle.snl_item_check.specs.Items.{linked_of}
use Rattle.snl_kept.specs.Program.{items_of}
use Rattle.snl_finding_laws.proofs.OrderedTexts.{links_silent, none_misplaced}
use Rattle.snl_finding_laws.proofs.order_laws.ordered_texts_have_no_misplaced_item.Goals as goal

pub returns-clause-none : goal.returns-clause-none
returns-clause-none c = λ text order free. none_misplaced c.faults_have_item_codes.ensures text (c.ordered_items_have_places.ensures.all (linked_of text (items_of text)) order free)

pub returns-clause-ordered : goal.returns-clause-ordered
returns-clause-ordered c = λ text none.
    c.items_with_places_are_ordered.ensures.outside (linked_of text (items_of text)) (λ k d lt code _. links_silent text none k d lt code)

pub returns-clause-sets : goal.returns-clause-sets
returns-clause-sets c = λ text none. c.items_with_places_are_ordered.ensures.sets (linked_of text (items_of text)) (links_silent text none)
