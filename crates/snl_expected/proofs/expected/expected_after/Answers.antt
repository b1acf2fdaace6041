use Rattle.std.proofs.Common.{[], ◌∷◌, ◌++◌, cond, List, sym, ap, ◌∙◌, slice_index_or}
use Rattle.std.proofs.lemmas.List.Elements.{filter_more}
use Rattle.snl_lex.specs.declared.kind.Kind.{Kind}
use Rattle.snl_expected.specs.Expected.{comes, may_not}
use Rattle.snl_expected.specs.Kinds.{all_kinds}
use Rattle.snl_expected.proofs.expected.expected_after.Goals as goal

pub loop-kind-preserved : goal.loop-kind-preserved
loop-kind-preserved c = record {
  kinds =
      c.in_ok-sort.ensures.kinds
      ∙ ap (λ (l : List Kind). l ++ cond (comes c.args.before.now (slice_index_or all_kinds c.loop-kind.kind-index _)) (slice_index_or all_kinds c.loop-kind.kind-index _ ∷ []) []) c.loop-kind.invariant.kinds
      ∙ sym (filter_more (comes c.args.before.now) all_kinds c.loop-kind.kind-index _ c.loop-kind-test.true);
  others =
      c.in_ok-sort.ensures.others
      ∙ ap (λ (l : List Kind). l ++ cond (may_not c.args.before.now (slice_index_or all_kinds c.loop-kind.kind-index _)) (slice_index_or all_kinds c.loop-kind.kind-index _ ∷ []) []) c.loop-kind.invariant.others
      ∙ sym (filter_more (may_not c.args.before.now) all_kinds c.loop-kind.kind-index _ c.loop-kind-test.true);
}
