use Rattle.std.proofs.Common.{ap, false, not, sym, ◌∙◌}
use Rattle.std.specs.Option.{option_map_or}
use Rattle.snl_scope.specs.Order.{is_faulty}
use Rattle.snl_scope.proofs.Gets.{got, got-none}
use Rattle.snl_scope.proofs.findings.is_told.Goals as goal

pub returns-in-Some : goal.returns-in-Some
returns-in-Some c =
    let found = c.in-Some.ensures.lookup in
    ap not (c.is_faulty.ensures ∙ sym (ap (λ o. option_map_or is_faulty o false) (got c.args.kinds.now c.args.fault.item c.in-Some.kind.now found.0 found.1)))

pub returns-in-None : goal.returns-in-None
returns-in-None c = sym (ap (λ o. not (option_map_or is_faulty o false)) (got-none c.args.kinds.now c.args.fault.item c.in-None.ensures.lookup.0))
