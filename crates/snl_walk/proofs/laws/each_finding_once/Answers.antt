use Rattle.snl_grammar.specs.Parsing.{kinds_in}
use Rattle.snl_walk.specs.Items.{occurrences}
use Rattle.snl_walk.proofs.FindingsOnce.{findings_apart}
use Rattle.snl_walk.proofs.ItemLeaves.{two_in}
use Rattle.snl_walk.proofs.laws.each_finding_once.Goals as goal

pub returns : goal.returns
returns c = λ bytes outer misses text tokens tree read.
    let is = c.item_read.ensures.told (kinds_in text tokens) tree read in
    let spelled = c.item_spelled.ensures.spelled tree (kinds_in text tokens) is in
    findings_apart bytes outer misses (occurrences bytes tree) (two_in bytes text tokens tree spelled)
