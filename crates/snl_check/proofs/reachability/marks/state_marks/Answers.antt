use Rattle.std.proofs.Common.{◌≡◌, ◌<◌, ℕ, Bool, false, List, filter, length, map, slice_index_or, sym, subst, ap, ap₂, ◌∙◌}
use Rattle.std.specs.List.{enumerate_from}
use Rattle.std.specs.List.Sorted.{IsStrictlyIncreasing}
use Rattle.snl_check.specs.declared.reachability.marks.SetMember.{SetMember}
use Rattle.snl_check.specs.Members.{has_name, numbers_by_member}
use Rattle.snl_check.specs.Reach.{is_reached}
use Rattle.snl_check.specs.States.{mark_by_member}
use Rattle.snl_check.proofs.SetMembers.{faulty_is, items_of, marks_are, named_rise, targets_are}
use Rattle.snl_check.proofs.reachability.marks.state_marks.Goals as goal

pub reached_among-requires : goal.reached_among-requires
reached_among-requires c =
    subst (λ (ns : List SetMember). IsStrictlyIncreasing (items_of ns)) (sym (c.deref.ensures.value ∙ c.in_ok-named.ensures))
    (named_rise c.args.links.now.outlines c.args.set c.args.members.now c.requires.items)

pub returns : goal.returns
returns c =
    let ss = c.args.links.now.outlines in
    let set = c.args.set in
    let members = c.args.members.now in
    let reached = c.deref-2.result.now in
    let named : c.deref.result.now ≡ filter has_name members = c.deref.ensures.value ∙ c.in_ok-named.ensures in
    record {
      marks = λ text xs are.
          c.in_ok-marks.ensures
          ∙ ap₂ (λ (b : Bool) (ns : List SetMember). map (λ p. mark_by_member ss b reached p.0 p.1) (enumerate_from 0 ns)) c.some_faulty-has_faulty.ensures
          (c.deref-3.ensures.value ∙ c.in_ok-named.ensures)
          ∙ marks_are text xs ss set members are reached
          (λ clear number l.
          ap (λ (bs : List Bool). slice_index_or bs number false) c.deref-2.ensures.value
          ∙ c.in_ok-reached.ensures (c.some_faulty-has_faulty.ensures ∙ faulty_is text xs ss set members are ∙ clear) number
          (subst (λ (ns : List SetMember). number < length ns) (sym named) l)
          ∙ ap (λ (ns : List SetMember). is_reached (map (numbers_by_member ss (items_of ns)) ns) number) named
          ∙ ap (λ (ts : List (List ℕ)). is_reached ts number) (targets_are text xs ss set members are));
    }
