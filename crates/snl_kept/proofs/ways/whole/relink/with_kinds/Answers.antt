use Rattle.std.proofs.Common.{ap, ap₂, ◌∙◌}
use Rattle.snl_scope.specs.Linked.{faults_of}
use Rattle.snl_scope.specs.LinkedItems.{LinkedItems}
use Rattle.snl_kept.specs.Linked.{linked_of}
use Rattle.snl_kept.proofs.ways.whole.relink.with_kinds.Goals as goal

pub returns-clause-faults : goal.returns-clause-faults
returns-clause-faults c =
    let text = c.args.text.now in
    c.in_ok-faults.ensures
    ∙ ap₂ (λ os ks. let l : LinkedItems = record { outlines = os; kinds = ks } in faults_of l) c.requires.outlines
    (c.deref.ensures.value ∙ c.in_ok-kinds.ensures ∙ ap (λ xs. (linked_of text xs).kinds) c.requires.items)
