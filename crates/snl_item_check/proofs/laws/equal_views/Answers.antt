use Rattle.std.proofs.Common.{ap}
use Rattle.snl_item_check.specs.Told.{told_by}
use Rattle.snl_item_check.proofs.SameView.{faults_alike, same_bytes}
use Rattle.snl_item_check.proofs.laws.equal_views.Goals as goal

pub returns-clause-faults : goal.returns-clause-faults
returns-clause-faults c = faults_alike c.same_answers_same_findings.ensures

pub returns-clause-told : goal.returns-clause-told
returns-clause-told c = λ text moved tokens shifted tree same. ap (λ bytes. told_by bytes tree) (same_bytes text moved tokens shifted same)
