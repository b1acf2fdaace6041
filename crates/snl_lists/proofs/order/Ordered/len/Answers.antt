use Rattle.std.proofs.Common.{length, ap, arith}
use Rattle.snl_lists.proofs.Storing.{as_many}
use Rattle.snl_lists.proofs.order.Ordered.len.Goals as goal

pub returns : goal.returns
returns g c =
    let many = as_many c.self.inside.kept c.self.inside.keys.items c.self.invariant.stored in
    let seen = ap (λ row. length row.values) c.self.view_is in
    omega (arith, c.len.ensures, c.self.inside.keys.ok, many, seen)
