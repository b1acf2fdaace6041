use Rattle.std.proofs.Common.{◌≡◌, Some, ap, cond, false, is_some, ◌∙◌}
use Rattle.std.proofs.lemmas.Result.{IfOk-weaker}
use Rattle.std.specs.Map.{lookup}
use Rattle.snl_scope.specs.contracts.names.namespaces.QualifiedNamePartialEq.TheImpl as key_eq
use Rattle.snl_scope.specs.declared.names.namespaces.QualifiedName.{QualifiedName}
use Rattle.snl_scope.proofs.Entries.{lookup_is, put_is}
use Rattle.snl_scope.proofs.names.first_numbers.add_first.Goals as goal

pub returns-clause-seen : goal.returns-clause-seen
returns-clause-seen c =
    IfOk-weaker c.add_first.result (λ seen. seen ≡ is_some (lookup (key_eq.eq-value.it c.args.key) c.args.table.now)) _
    (λ seen is. is ∙ ap is_some (lookup_is c.args.key c.args.table.now)) c.add_first.ensures.seen

pub returns-clause-put : goal.returns-clause-put
returns-clause-put c =
    let old = c.args.table.now in
    let new = c.add_first.new.self in
    IfOk-weaker c.add_first.result
    (λ seen. seen ≡ false → (q : QualifiedName) → lookup (key_eq.eq-value.it q) new ≡ cond (key_eq.eq-value.it c.args.key q) (Some c.args.number) (lookup (key_eq.eq-value.it q) old)) _
    (λ seen put none. put_is c.args.key c.args.number old new (put none)) c.add_first.ensures.put
