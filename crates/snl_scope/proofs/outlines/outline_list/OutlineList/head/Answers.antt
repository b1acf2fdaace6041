use Rattle.std.proofs.Common.{Some, ap, option_map, sym, ◌∙◌, arith}
use Rattle.std.proofs.lemmas.Option.{slice_get-map}
use Rattle.snl_scope.specs.declared.items.heads.Head.{Head}
use Rattle.snl_scope.specs.NameTables.{head_of}
use Rattle.snl_scope.proofs.OutlineLists.{named_by}
use Rattle.snl_scope.proofs.ReadOutlines.{head_seen, heads_seen, outline_seen}
use Rattle.snl_scope.proofs.outlines.outline_list.OutlineList.head.Goals as goal

pub index-requires : goal.index-requires
index-requires c = omega (arith, heads_seen c.self.invariant c.self.view_is, c.requires, c.self.inside.heads.ok)

pub returns : goal.returns
returns c =
    let item = c.args.item in
    let h = c.index.result.now in
    let at = head_seen c.self.invariant c.self.view_is c.requires c.index.ensures in
    let made : _ → Head = λ b. record { role = h.role; opening = h.opening; is_named = b } in
    slice_get-map head_of c.args.self.now.outlines item
    ∙ ap (option_map head_of) (outline_seen c.self.invariant c.self.view_is item at)
    ∙ ap (λ b. Some (made b)) (named_by c.args.self.now.names h.second ∙ sym c.is_some.ensures)
