use Rattle.std.proofs.Common.{Option, Bor}
use Rattle.std.specs.Option.{option_copied}
use Rattle.snl_grammar.specs.declared.tree.item.Item.{Item}
use Rattle.snl_kept.specs.Parts.{tree_of_part}
use Rattle.snl_kept.proofs.Steps.{image_at}
use Rattle.snl_kept.proofs.found.program.add_faults.Goals as goal

pub fault_in-requires-clause-tree : goal.fault_in-requires-clause-tree
fault_in-requires-clause-tree c =
    image_at tree_of_part (λ (o : Option (Bor Item)). option_copied o) c.args.parts.now c.args.trees.now c.loop-number.number c.index-parts-number.result c.index-trees-number.result c.requires.trees c.loop-number-test.true c.index-parts-number.is c.index-trees-number.is
