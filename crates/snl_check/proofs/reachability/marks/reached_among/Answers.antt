use Rattle.std.proofs.Common.{length, sym, subst, ap, ◌∙◌}
use Rattle.std.specs.List.Sorted.{IsStrictlyIncreasing}
use Rattle.std.proofs.lemmas.List.{length-map}
use Rattle.snl_check.specs.declared.reachability.marks.SetMember.{SetMember}
use Rattle.snl_check.specs.Reach.{AreStates, target_lists}
use Rattle.snl_check.proofs.Sets.{numbers_are_states}
use Rattle.snl_check.proofs.reachability.marks.reached_among.Goals as goal

pub targets_of-requires : goal.targets_of-requires
targets_of-requires c = subst IsStrictlyIncreasing (sym (c.deref.ensures.value ∙ c.in_ok-states.ensures)) c.requires

pub reach-requires : goal.reach-requires
reach-requires c =
    let named = c.args.named.now in
    let count = length-map named (λ (m : SetMember). m.item) in
    subst AreStates (sym (ap target_lists c.deref-2.ensures.value ∙ c.in_ok-targets.ensures))
    (numbers_are_states c.args.links.now.outlines c.deref.result.now named (sym (ap length (c.deref.ensures.value ∙ c.in_ok-states.ensures) ∙ count)))
