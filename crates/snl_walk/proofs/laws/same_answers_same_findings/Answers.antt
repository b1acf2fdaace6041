use Rattle.snl_walk.proofs.SameAnswers.{findings_alike}
use Rattle.snl_walk.proofs.laws.same_answers_same_findings.Goals as goal

pub returns : goal.returns
returns c = λ bytes outer other misses missed found agree miss. findings_alike bytes outer other misses missed found agree miss
