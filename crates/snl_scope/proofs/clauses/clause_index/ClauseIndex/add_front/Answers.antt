use Rattle.std.proofs.Common.{ℕ, add-one, subst, sym}
use Rattle.snl_scope.specs.declared.clauses.clause_index.Claim.{Claim}
use Rattle.snl_scope.specs.declared.clauses.clause_index.Extent.TheVariants as extent
use Rattle.snl_scope.specs.Below.{any_below}
use Rattle.snl_scope.specs.Claims.{Adds, same_claim}
use Rattle.snl_scope.proofs.FirstClaims.{adds-then}
use Rattle.snl_scope.proofs.clauses.clause_index.ClauseIndex.add_front.Goals as goal

pub loop-element-preserved : goal.loop-element-preserved
loop-element-preserved c =
    let claim = λ (k : ℕ). let one : Claim = record { purpose = c.args.purpose; variable = c.args.variable; extent = extent.Element k } in one in
    let element = c.loop-element.element in
    subst (λ n. Adds c.args.self.now c.add.new.self (λ m. any_below (λ k. same_claim (claim k) m) n) c.args.number) (sym (add-one element))
    (adds-then c.args.self.now c.loop-element.self c.add.new.self (λ m. any_below (λ k. same_claim (claim k) m) element) (same_claim (claim element)) c.args.number
    c.loop-element.invariant c.in_ok-add.ensures)
