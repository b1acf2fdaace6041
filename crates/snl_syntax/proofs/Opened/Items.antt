-- What the proofs of the readers of items open, by the files of src/.
use Rattle.snl_grammar.specs.Steps.{and_then}
use Rattle.snl_grammar.specs.Reading.Items as spec

unfoldable pub items : Unit {0}
unfolding and_then spec.some_texts spec.texts_part spec.header spec.set_begin spec.c_block
    spec.foreign_item spec.clause_item spec.option_item spec.entry_item spec.exit_item spec.state_item
    spec.item spec.ended spec.whole_item
items = tt

unfoldable pub item_of : Unit {0}
unfolding spec.item_of
item_of = tt
