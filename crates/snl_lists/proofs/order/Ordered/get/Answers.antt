use Rattle.std.proofs.Common.{ap, ◌∙◌, sym, arith, slice_get}
use Rattle.std.proofs.lemmas.Grind.{get_or_default_zero}
use Rattle.slab.specs.Slab.{get}
use Rattle.snl_lists.proofs.Storing.{value_at, values_none}
use Rattle.snl_lists.proofs.order.Ordered.get.Goals as goal

pub returns-then-number-len : goal.returns-then-number-len
returns-then-number-len g c =
    let seen = ap (λ row. slice_get row.values c.args.number) c.self.view_is in
    let there = value_at c.self.inside.kept c.self.inside.keys.items c.args.number c.self.invariant.stored (omega (arith, c.self.inside.keys.ok)) in
    let key = c.index-key.ensures ∙ get_or_default_zero c.self.inside.keys.items c.args.number c.index-key.result.now (omega (arith, c.self.inside.keys.ok)) in
    c.get.ensures ∙ ap (get c.self.inside.kept) key ∙ sym there ∙ seen

pub returns-else-number-len : goal.returns-else-number-len
returns-else-number-len g c =
    let seen = ap (λ row. slice_get row.values c.args.number) c.self.view_is in
    let none = values_none c.self.inside.kept c.self.inside.keys.items c.args.number c.self.invariant.stored (omega (arith, c.self.inside.keys.ok)) in
    sym (sym seen ∙ none)
