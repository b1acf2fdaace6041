use Rattle.snl_grammar.specs.Parsing.{kinds_in}
use Rattle.snl_walk.proofs.ItemLeaves.{seconds_in}
use Rattle.snl_walk.proofs.laws.subscripts_stand_second.Goals as goal

pub returns : goal.returns
returns c = λ bytes text tokens tree read.
    let is = c.item_read.ensures.told (kinds_in text tokens) tree read in
    seconds_in bytes text tokens tree (c.item_spelled.ensures.spelled tree (kinds_in text tokens) is)
