use Rattle.std.proofs.Common.{◌≡◌, ◌∷◌, ◌++◌, [], ◌+◌, List, ap, arith, subst, sym, take, ◌∙◌}
use Rattle.std.proofs.lemmas.List.{take_more}
use Rattle.snl_scope.specs.declared.outlines.flat.FlatDeclared.{FlatDeclared}
use Rattle.snl_scope.specs.OutlineList.{AddsDeclared, Extends}
use Rattle.snl_scope.proofs.AddedOutlines.{declared_more, extends_more, extends_name, name_is, name_within}
use Rattle.snl_scope.proofs.outlines.making.add_declared.Goals as goal

pub loop-declared-preserved : goal.loop-declared-preserved
loop-declared-preserved c =
    let old = c.loop-declared.names in
    let new = c.add.new.self in
    let declares = c.args.declares.now in
    let i = c.loop-declared.declared-index in
    let d = c.declared-item.result in
    let name = c.bytes.result.now in
    let n = c.in_ok-name.name in
    let made : FlatDeclared = record { name = n; token = d.token; variable = d.variable } in
    let x : Extends old new = subst (Extends old) (sym c.in_ok-name.ensures.names) (extends_name old name) in
    let is = ap (λ b. record { name = b; token = d.token; variable = d.variable }) (name_is new name n c.in_ok-name.ensures.number ∙ c.bytes.ensures) in
    let more : take (i + 1) declares ≡ take i declares ++ d ∷ [] =
    take_more declares i d (omega (arith, c.loop-declared-test.true)) ∙ ap (λ e. take i declares ++ e ∷ []) (sym c.declared-item.is) in
    record {
      names = extends_more c.args.names.now old new c.loop-declared.invariant.names x;
      added = subst (AddsDeclared new c.args.flat.now.items c.push.new.self.items) (sym more)
          (subst (λ (l : List FlatDeclared). AddsDeclared new c.args.flat.now.items l (take i declares ++ d ∷ [])) (sym c.in_ok-push.ensures.items)
          (declared_more old new x c.args.flat.now.items c.loop-declared.flat.items (take i declares) made d c.loop-declared.invariant.added is (name_within new name n c.in_ok-name.ensures.number)));
    }
