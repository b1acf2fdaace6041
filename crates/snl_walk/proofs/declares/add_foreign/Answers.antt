use Rattle.std.proofs.Common.{refl, ℕ, List, map, true}
use Rattle.snl_walk.specs.Declares.{declare}
use Rattle.snl_facts.specs.Lists.{at_end}
use Rattle.snl_walk.proofs.declares.add_foreign.Goals as goal

pub returns : goal.returns
returns c = at_end (λ (ns : List ℕ). map (λ n. declare n true true) ns) refl c.args.names.now c.loop-name.name-index c.loop-name.declared.items _ c.loop-name-test.false c.loop-name.invariant
