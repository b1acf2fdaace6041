use Rattle.std.proofs.Common.{◌≡◌, None, Some, bytes_eq, get_or, ap, sym, ◌∙◌}
use Rattle.std.specs.List.{position}
use Rattle.snl_names.specs.NameBook.{with_name}
use Rattle.snl_walk.specs.declared.stack.VisibleName.{VisibleName}
use Rattle.snl_walk.proofs.Tables.{is_put, stack-push}
use Rattle.snl_walk.proofs.stack.Stack.push.Goals as goal

pub invariant_of-self-2 : goal.invariant_of-self-2
invariant_of-self-2 c =
    let name = c.args.name.now in
    let names = c.self.inside.names in
    let meanings = c.self.inside.meanings.items in
    let n = c.in_ok-number.number in
    let e : VisibleName = record { name = c.args.name; declared = c.args.declared; earlier = c.put_meaning-earlier.result } in
    let at : position (bytes_eq name) (with_name names name) ≡ Some n =
    ap (position (bytes_eq name)) (sym c.in_ok-number.ensures.names) ∙ c.in_ok-number.ensures.number in
    let put = is_put names meanings name n (Some c.args.declared) c.self.invariant.counted at in
    let earlier : e.earlier ≡ get_or meanings n None =
    c.put_meaning-earlier.ensures.earlier ∙ ap (λ ms. get_or ms n None) c.in_ok-reserve-2.ensures.items in
    let now = stack-push c.self.inside.entries.items names (with_name names name) meanings n e put earlier c.self.invariant in
    rw (c.push_reserved.ensures.items, c.reserve.ensures.items, c.in_ok-number.ensures.names, c.put_meaning-earlier.ensures.meanings, c.reserve-2.ensures.items) now
