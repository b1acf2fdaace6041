use Rattle.snl_grammar.specs.Parsing.{kinds_in}
use Rattle.snl_walk.proofs.ItemLeaves.{rise_in, stand_in}
use Rattle.snl_walk.proofs.laws.tokens_rise.Goals as goal

pub returns-clause-rise : goal.returns-clause-rise
returns-clause-rise c = λ bytes text tokens tree read.
    let is = c.item_read.ensures.told (kinds_in text tokens) tree read in
    rise_in bytes text tokens tree (c.item_spelled.ensures.spelled tree (kinds_in text tokens) is)

pub returns-clause-own : goal.returns-clause-own
returns-clause-own c = λ bytes text tokens tree read.
    let is = c.item_read.ensures.told (kinds_in text tokens) tree read in
    stand_in bytes text tokens tree (c.item_spelled.ensures.spelled tree (kinds_in text tokens) is)
