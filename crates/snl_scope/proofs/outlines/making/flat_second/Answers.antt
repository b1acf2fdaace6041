use Rattle.std.proofs.Common.{Some, ap, sym, ◌∙◌}
use Rattle.snl_scope.proofs.AddedOutlines.{name_is}
use Rattle.snl_scope.proofs.outlines.making.flat_second.Goals as goal

pub returns-in_ok-number-in-Some-clause-told : goal.returns-in_ok-number-in-Some-clause-told
returns-in_ok-number-in-Some-clause-told c =
    ap Some (name_is c.add.new.self c.bytes.result.now c.in_ok-number-in-Some.number c.in_ok-number-in-Some.ensures.number ∙ c.bytes.ensures) ∙ sym c.in-Some.is
