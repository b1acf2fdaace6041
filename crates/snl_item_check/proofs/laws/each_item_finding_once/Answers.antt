use Rattle.snl_walk.specs.Items.{occurrences}
use Rattle.snl_walk.specs.Rules.{findings}
use Rattle.snl_item_check.specs.View.{misses_by, outer_by}
use Rattle.snl_item_check.proofs.FaultsOnce.{faults_apart}
use Rattle.snl_item_check.proofs.laws.each_item_finding_once.Goals as goal

pub returns : goal.returns
returns c = λ bytes in_set fact target text tokens tree read.
    faults_apart bytes in_set tree (findings bytes (outer_by fact) (misses_by in_set target) (occurrences bytes tree))
    (c.findings_have_rule_codes.ensures bytes (outer_by fact) (misses_by in_set target) (occurrences bytes tree))
    (c.each_finding_once.ensures bytes (outer_by fact) (misses_by in_set target) text tokens tree read) (c.option_letters_rise.ensures.rise text tokens tree read)
