use Rattle.std.proofs.Common.{◌&&◌, ◌++◌, ◌∷◌, [], nat_eq, subst, sym}
use Rattle.snl_scope.specs.Claims.{Adds, Claimed, claims, same_purpose}
use Rattle.snl_scope.specs.Resolved.{linked}
use Rattle.snl_scope.proofs.FirstClaims.{claimed-sound}
use Rattle.snl_scope.proofs.clauses.soundness.make_claims.Goals as goal

pub returns-in_ok-make : goal.returns-in_ok-make
returns-in_ok-make c = λ judged last f.
    let d = linked c.args.clause in
    subst (λ b. Claimed c.make.new.self (judged ++ (d, b) ∷ [])) (sym c.if-is_sound.true)
    (claimed-sound judged d c.args.claims.now c.make.new.self c.in-Some.variable c.args.number f c.in-Some.is last
    (subst (λ p. Adds c.args.claims.now c.make.new.self (λ m. same_purpose p m.purpose && nat_eq c.in-Some.variable m.variable && claims d.clause.coverage m.extent) c.args.number)
    c.purpose_of.ensures c.in_ok-make.ensures))
