use Rattle.std.proofs.Common.{ap, ◌∙◌}
use Rattle.snl_scope.proofs.AddedOutlines.{name_is}
use Rattle.snl_scope.proofs.outlines.making.flat_ref.Goals as goal

pub returns-clause-told : goal.returns-clause-told
returns-clause-told c =
    ap (λ n. record { name = n; token = c.args.name_ref.now.token })
    (name_is c.add.new.self c.bytes.result.now c.in_ok-add.field-0 c.in_ok-add.ensures.number ∙ c.bytes.ensures)
