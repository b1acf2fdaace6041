use Rattle.std.proofs.Common.{refl, List, map}
use Rattle.snl_facts.specs.Lists.{at_end}
use Rattle.snl_walk.specs.declared.rules.Finding.{Finding}
use Rattle.snl_item_check.specs.ItemFaults.{fault_of}
use Rattle.snl_item_check.proofs.check.add_findings.Goals as goal

pub returns : goal.returns
returns c =
    at_end (λ (fs : List Finding). map fault_of fs) refl c.args.findings.now c.loop-finding.finding-index c.loop-finding.faults.items _ c.loop-finding-test.false c.loop-finding.invariant
