use Rattle.snl_grammar.specs.Parsing.{kinds_in}
use Rattle.snl_walk.proofs.OptionLeaves.{letters_rise, letters_stand}
use Rattle.snl_walk.proofs.laws.option_letters_rise.Goals as goal

pub returns-clause-rise : goal.returns-clause-rise
returns-clause-rise c = λ text tokens tree read.
    let is = c.item_read.ensures.told (kinds_in text tokens) tree read in
    letters_rise text tokens tree (c.item_spelled.ensures.spelled tree (kinds_in text tokens) is)

pub returns-clause-own : goal.returns-clause-own
returns-clause-own c = λ text tokens tree read.
    let is = c.item_read.ensures.told (kinds_in text tokens) tree read in
    letters_stand text tokens tree (c.item_spelled.ensures.spelled tree (kinds_in text tokens) is)
