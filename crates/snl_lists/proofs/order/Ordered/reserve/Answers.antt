use Rattle.std.proofs.Common.{ap, refl}
use Rattle.snl_lists.proofs.Storing.{keyed_still}
use Rattle.snl_lists.proofs.order.Ordered.reserve.Goals as goal

pub invariant_of-self : goal.invariant_of-self
invariant_of-self g c = keyed_still c.self.inside.kept c.reserve.new.self c.self.inside.keys.items c.self.inside.keys.items (ap (λ s. s.slots) c.reserve.ensures.rest_kept) refl c.self.invariant

pub invariant_of-self-2 : goal.invariant_of-self-2
invariant_of-self-2 g c =
    keyed_still c.self.inside.kept c.reserve.new.self c.self.inside.keys.items c.reserve-2.new.self.items (ap (λ s. s.slots) c.reserve.ensures.rest_kept) c.reserve-2.ensures.items c.self.invariant
