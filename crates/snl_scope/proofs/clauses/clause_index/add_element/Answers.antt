use Rattle.snl_scope.proofs.FirstClaims.{puts-first}
use Rattle.snl_scope.proofs.clauses.clause_index.add_element.Goals as goal

pub returns : goal.returns
returns c =
    let added = c.in_ok-add_first.ensures in
    puts-first c.args.claim c.args.number c.args.elements.now c.add_first.new.self c.in_ok-add_first.field-0 added.seen added.stays added.put
