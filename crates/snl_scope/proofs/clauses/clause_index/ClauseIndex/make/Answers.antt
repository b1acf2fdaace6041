use Rattle.std.proofs.Common.{◌&&◌, nat_eq, subst, sym}
use Rattle.std.proofs.lemmas.Result.{on_ok_weaker}
use Rattle.snl_scope.specs.Claims.{Adds, claims, same_purpose}
use Rattle.snl_scope.proofs.Overlaps.{makes_element, makes_front, makes_whole}
use Rattle.snl_scope.proofs.clauses.clause_index.ClauseIndex.make.Goals as goal

pub returns-in-Whole : goal.returns-in-Whole
returns-in-Whole c =
    on_ok_weaker c.add-in-Whole.result (λ made.
    subst (λ o. Adds c.args.self.now c.add-in-Whole.new.self (λ m. same_purpose c.args.purpose m.purpose && nat_eq c.args.variable m.variable && claims o m.extent) c.args.number) (sym c.in-Whole.is)
    (makes_whole c.args.purpose c.args.variable c.args.self.now c.add.new.self c.add-in-Whole.new.self c.args.number c.in_ok-add.ensures made))
    c.add-in-Whole.ensures

pub returns-in-Element : goal.returns-in-Element
returns-in-Element c =
    on_ok_weaker c.add-in-Element.result (λ made.
    subst (λ o. Adds c.args.self.now c.add-in-Element.new.self (λ m. same_purpose c.args.purpose m.purpose && nat_eq c.args.variable m.variable && claims o m.extent) c.args.number) (sym c.in-Element.is)
    (makes_element c.args.purpose c.args.variable c.args.self.now c.add.new.self c.add-in-Element.new.self c.args.number c.in_ok-add.ensures c.in-Element.element made))
    c.add-in-Element.ensures

pub returns-in-Front : goal.returns-in-Front
returns-in-Front c =
    on_ok_weaker c.add_front.result (λ made.
    subst (λ o. Adds c.args.self.now c.add_front.new.self (λ m. same_purpose c.args.purpose m.purpose && nat_eq c.args.variable m.variable && claims o m.extent) c.args.number) (sym c.in-Front.is)
    (makes_front c.args.purpose c.args.variable c.args.self.now c.add.new.self c.add_front.new.self c.args.number c.in_ok-add.ensures c.in-Front.length made))
    c.add_front.ensures
