use Rattle.std.proofs.Common.{◌∷◌, [], Bor, List, Bool, map, subst, ◌∙◌}
use Rattle.std.specs.List.{AllByRecursion as Each}
use Rattle.std.specs.Map.Iter.{deref}
use Rattle.std.proofs.lemmas.Map.Iter.{iter_end}
use Rattle.snl_facts.specs.Each.{each_append, each_map, each_weaker}
use Rattle.snl_scope.specs.declared.names.namespaces.QualifiedName.{QualifiedName}
use Rattle.snl_views.specs.SameMeanings.{IsPaired}
use Rattle.snl_views.proofs.SameMeanings.{still_paired}
use Rattle.snl_views.proofs.same_views.unmark_changed.Goals as goal

pub loop-key-preserved : goal.loop-key-preserved
loop-key-preserved c =
    let both = c.args.both in
    let moved = c.args.moved in
    let v = c.args.side in
    let old : List Bool = c.loop-key.marks.items in
    let new : List Bool = c.unmark_if_changed.new.marks.items in
    let fewer = c.unmark_if_changed.ensures.fewer in
    let Was : Bor QualifiedName → Type 0 = λ k. IsPaired both moved v old k.now in
    let Is : Bor QualifiedName → Type 0 = λ k. IsPaired both moved v new k.now in
    record {
      fewer = λ k h. c.loop-key.invariant.fewer k (fewer k h);
      same = each_append Is c.loop-key.yielded (c.in-Some.key ∷ [])
          (each_weaker Was Is (λ k. still_paired both moved v old new fewer k.now) c.loop-key.yielded c.loop-key.invariant.same) (c.unmark_if_changed.ensures.same, tt);
    }

pub returns-clause-same : goal.returns-clause-same
returns-clause-same c =
    let P : QualifiedName → Type 0 = IsPaired c.args.both c.args.moved c.args.side c.loop-key.marks.items in
    let keys : List QualifiedName = map (λ e. e.0) c.args.first.now.elsewhere in
    let whole = iter_end deref keys c.loop-key.yielded c.into_iter-key-iterator.result c.loop-key.key-iterator c.next.new.self c.next.result
    (c.into_iter-key-iterator.ensures.into_iter_gives ∙ c.keys_elsewhere-key-items.ensures) c.loop-key.yielded_by c.in-None.is c.next.ensures.steps in
    subst (Each P) whole.0 (each_map P deref c.loop-key.yielded c.loop-key.invariant.same)
