use Rattle.std.proofs.Common.{◌≡◌, inl, inr, ap, arith, sym, ◌∙◌}
use Rattle.std.proofs.lemmas.Bool.{cases_lt}
use Rattle.snl_scope.specs.declared.names.namespaces.Namespace.TheVariants as namespace
use Rattle.snl_views.specs.SameMeanings.{same_under}
use Rattle.snl_views.proofs.same_views.program_means_the_same.Goals as goal

pub loop-name-preserved : goal.loop-name-preserved
loop-name-preserved c = λ n lt.
    elim (cases_lt n c.loop-name.name) [
      | inl less ↦ c.loop-name.invariant n less
      | inr more ↦
          let same : n ≡ c.loop-name.name = omega (arith, lt, more) in
          ap (same_under c.args.both namespace.Program namespace.Program) same ∙ sym c.means_the_same.ensures ∙ c.if-not-means_the_same.false
    ]
