use Rattle.std.proofs.Common.{◌≡◌, ◌+◌, ◌++◌, [], Some, add-one, ap, arith, map, slice_get, sym, ◌∙◌}
use Rattle.std.specs.Option.{option_map_or}
use Rattle.snl_scope.specs.Clauses.{clauses_before, linked_clause}
use Rattle.snl_scope.specs.OutlineList.{outline_of}
use Rattle.snl_scope.specs.Places.{enclosing_set}
use Rattle.snl_scope.specs.Resolved.{linked}
use Rattle.snl_scope.proofs.clauses.resolved.resolved_clauses.Goals as goal

pub loop-item-preserved : goal.loop-item-preserved
loop-item-preserved c =
    let ss = c.scopes.inside.outlines.outlines in
    let names = c.scopes.inside.outlines.names in
    let i = c.loop-item.item in
    let t = c.told.result in
    let s = outline_of names t in
    let at : slice_get ss i ≡ Some s = ap (slice_get ss) (sym c.loop-item.invariant.here) ∙ c.told.ensures.outline in
    let added : map linked c.add_clauses.new.found.items ≡ clauses_before ss i ++ map (linked_clause ss i) s.clauses =
    c.in_ok-add_clauses.ensures ss c.scopes.inside.symbols.items c.scopes.invariant.1 (c.enclosing_set.ensures ∙ ap (λ os. enclosing_set os i) (sym c.scopes.view_is))
    ∙ ap (λ l. l ++ map (linked_clause ss i) s.clauses) c.loop-item.invariant.found in
    record {
      found = added ∙ ap (λ o. clauses_before ss i ++ option_map_or (λ s. map (linked_clause ss i) s.clauses) o []) (sym at) ∙ ap (clauses_before ss) (sym (add-one i));
      at = c.next-at.ensures.at;
      here = c.next-at.ensures.item ∙ ap (λ n. n + 1) c.loop-item.invariant.here;
      within = omega (arith, c.loop-item-test.true, c.count-item-end.ensures);
    }
