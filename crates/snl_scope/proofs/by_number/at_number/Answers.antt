use Rattle.std.proofs.Common.{ap, sym}
use Rattle.std.specs.Option.{option_and_then}
use Rattle.snl_scope.proofs.Gets.{got}
use Rattle.snl_scope.proofs.by_number.at_number.Goals as goal

pub returns : goal.returns
returns g c =
    let found = c.in_ok-get.ensures.lookup in
    sym (ap (option_and_then (λ o. o)) (got c.args.list.now c.args.number c.in_ok-get.field-0.now found.0 found.1))
