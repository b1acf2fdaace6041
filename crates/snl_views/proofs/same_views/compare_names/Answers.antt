use Rattle.std.proofs.Common.{map, refl}
use Rattle.std.specs.List.{AllByRecursion as Each}
use Rattle.snl_facts.specs.Each.{each_weaker}
use Rattle.snl_scope.specs.declared.names.namespaces.Namespace.TheVariants as namespace
use Rattle.snl_views.specs.SameMeanings.{IsPaired, number_after}
use Rattle.snl_views.specs.declared.same_views.Side.TheVariants as side
use Rattle.snl_views.proofs.SameMeanings.{means_the_same, set_alike, still_paired}
use Rattle.snl_views.proofs.same_views.compare_names.Goals as goal

pub returns : goal.returns
returns c = λ b a names.
    let both = c.args.both in
    let moved = c.args.moved in
    let marks = c.unmark_changed-2.new.marks.items in
    let old : Each (IsPaired both moved side.Before marks) (map (λ e. e.0) both.before.first.now.elsewhere) =
    let between = c.unmark_changed.new.marks.items in
    each_weaker (IsPaired both moved side.Before between) (IsPaired both moved side.Before marks)
    (still_paired both moved side.Before between marks c.unmark_changed-2.ensures.fewer) (map (λ e. e.0) both.before.first.now.elsewhere) c.unmark_changed.ensures.same in
    let new : Each (IsPaired both moved side.After marks) (map (λ e. e.0) both.after.first.now.elsewhere) = c.unmark_changed-2.ensures.same in
    record {
      in_program = λ yes. means_the_same both b a names namespace.Program namespace.Program (c.program_means_the_same.ensures c.if-not-program_means_the_same.false);
      in_sets = λ k back marked. record {
        declared = means_the_same both b a names (namespace.StateSet k) (namespace.StateSet (number_after moved k))
            (λ n lt. set_alike namespace.StateSet (λ i. refl) (λ i j. refl) (λ i. refl) both moved marks k back marked old new n);
        states = means_the_same both b a names (namespace.States k) (namespace.States (number_after moved k))
            (λ n lt. set_alike namespace.States (λ i. refl) (λ i j. refl) (λ i. refl) both moved marks k back marked old new n);
      };
    }
