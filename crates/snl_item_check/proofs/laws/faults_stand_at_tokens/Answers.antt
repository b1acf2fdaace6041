use Rattle.std.proofs.Common.{length}
use Rattle.snl_walk.specs.Items.{occurrences}
use Rattle.snl_walk.specs.Rules.{findings}
use Rattle.snl_item_check.specs.View.{misses_by, outer_by}
use Rattle.snl_item_check.proofs.FaultsOnce.{faults_stand}
use Rattle.snl_item_check.proofs.laws.faults_stand_at_tokens.Goals as goal

pub returns : goal.returns
returns c = λ bytes in_set fact target text tokens tree read.
    faults_stand bytes (length tokens) in_set tree (findings bytes (outer_by fact) (misses_by in_set target) (occurrences bytes tree))
    (c.findings_stand_at_tokens.ensures bytes (outer_by fact) (misses_by in_set target) text tokens tree read) (c.option_letters_rise.ensures.own text tokens tree read)
