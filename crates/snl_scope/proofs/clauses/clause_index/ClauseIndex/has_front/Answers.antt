use Rattle.std.proofs.Common.{arith, sym, ◌∙◌}
use Rattle.std.proofs.lemmas.Bool.{lt-ltb}
use Rattle.snl_scope.specs.declared.clauses.clause_index.Extent.TheVariants as extent
use Rattle.snl_scope.specs.Claims.{has_claim}
use Rattle.snl_scope.proofs.Overlaps.{below-found}
use Rattle.snl_scope.proofs.clauses.clause_index.ClauseIndex.has_front.Goals as goal

pub returns-then-has : goal.returns-then-has
returns-then-has c =
    sym (below-found (λ k. has_claim c.args.self.now c.args.purpose c.args.variable (extent.Element k)) c.args.length c.loop-element.element
    (lt-ltb c.loop-element.element c.args.length (omega (arith, c.loop-element-test.true))) (sym c.has.ensures ∙ c.if-has.true))
