use Rattle.snl_grammar.specs.declared.tree.item.Item.TheVariants as items
use Rattle.snl_grammar.specs.Parsing.{kinds_in}
use Rattle.snl_walk.proofs.ItemLeaves.{after_name}
use Rattle.snl_walk.proofs.laws.functions_are_named_first.Goals as goal

pub returns : goal.returns
returns c = λ bytes text tokens f read.
    let is = c.item_read.ensures.told (kinds_in text tokens) (items.Function f) read in
    after_name bytes text tokens f (c.item_spelled.ensures.spelled (items.Function f) (kinds_in text tokens) is)
