use Rattle.std.proofs.Common.{◌≡◌, ◌+◌, Some, None, map, sym, ap, subst, ◌∙◌, arith, add-one, if◌then◌else◌}
use Rattle.std.proofs.lemmas.List.{length-map, take_all}
use Rattle.snl_scope.specs.Places.{begins_set, ends_set, enclosing_set, open_before}
use Rattle.snl_scope.specs.NameTables.{Placed, head_of}
use Rattle.snl_scope.proofs.OpenSets.{headed, heads-push, open_step, place_here, placed-push}
use Rattle.snl_scope.proofs.items.places.places_of.Goals as goal

pub loop-item-preserved : goal.loop-item-preserved
loop-item-preserved c =
    let ss = c.args.outlines.now.outlines in
    let i = c.loop-item.item in
    let h = c.head-head.result in
    let known = c.loop-item.invariant in
    let there = headed ss i h c.head-head.ensures in
    let s = there.0 in
    let at = there.1 in
    let role : h.role ≡ s.role = sym (ap (λ g. g.role) there.2) in
    let here : c.place_in.result ≡ enclosing_set ss i =
    c.place_in.ensures ∙ ap (λ o. if begins_set h.role then None else o) known.opened ∙ ap (λ r. if begins_set r then None else open_before ss i) role ∙ sym (place_here ss i s at) in
    record {
      placed = subst (λ ps. Placed ps ss (i + 1)) (sym c.in_ok-push.ensures.items) (placed-push c.loop-item.places.items ss i c.place_in.result known.placed here);
      headed = c.in_ok-push-2.ensures.items ∙ heads-push c.loop-item.heads.items (map head_of ss) i h known.headed c.head-head.ensures;
      opened =
          c.open_after-outer.ensures ∙ ap (λ o. if begins_set h.role then Some i else (if ends_set h.role then None else o)) known.opened
          ∙ ap (λ r. if begins_set r then Some i else (if ends_set r then None else open_before ss i)) role
          ∙ sym (open_step ss i s at) ∙ sym (ap (open_before ss) (add-one i));
      within = omega (arith, c.loop-item-test.true, c.count-count.ensures);
    }

pub returns-clause-heads : goal.returns-clause-heads
returns-clause-heads c =
    let heads = map head_of c.args.outlines.now.outlines in
    c.loop-item.invariant.headed
    ∙ take_all c.loop-item.item heads (omega (arith, c.loop-item-test.false, c.count-count.ensures, length-map c.args.outlines.now.outlines head_of))
