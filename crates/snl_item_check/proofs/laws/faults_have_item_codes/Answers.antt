use Rattle.snl_walk.specs.Items.{occurrences}
use Rattle.snl_walk.specs.Rules.{findings}
use Rattle.snl_item_check.specs.View.{misses_by, outer_by}
use Rattle.snl_item_check.proofs.LeftToLinks.{item_codes}
use Rattle.snl_item_check.proofs.laws.faults_have_item_codes.Goals as goal

pub returns : goal.returns
returns c = λ bytes tree in_set fact target. item_codes bytes in_set tree (findings bytes (outer_by fact) (misses_by in_set target) (occurrences bytes tree))
    (c.findings_have_rule_codes.ensures bytes (outer_by fact) (misses_by in_set target) (occurrences bytes tree))
