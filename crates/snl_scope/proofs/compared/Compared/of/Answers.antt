use Rattle.std.proofs.Common.{◌≡◌, List, ap, refl, ◌∙◌}
use Rattle.snl_scope.specs.Names.{entries, number_in}
use Rattle.snl_summary.specs.declared.summary.Outline.{Outline}
use Rattle.snl_scope.proofs.compared.Compared.of.Goals as goal

pub returns : goal.returns
returns c =
    let old : c.old.inside.outlines.outlines ≡ c.args.before.now.outlines = c.old.view_is ∙ ap (λ v. v.outlines) c.before-2.view_is in
    let new : c.new.inside.outlines.outlines ≡ c.args.after.now.outlines = c.new.view_is ∙ ap (λ v. v.outlines) c.after.view_is in
    record {
      is_before = refl;
      is_after = refl;
      before = c.old.inside.outlines.names;
      after = c.new.inside.outlines.names;
      by_names = record {
        count = c.name_count.ensures;
        count_after = c.name_count-2.ensures;
        first = c.numbers_as.ensures c.if-not-numbers_as.false;
        found = λ s name. c.old.invariant.1.found s name ∙ ap (λ (ss : List Outline). number_in (entries ss) s name) old;
        found_after = λ s name. c.new.invariant.1.found s name ∙ ap (λ (ss : List Outline). number_in (entries ss) s name) new;
      };
    }
