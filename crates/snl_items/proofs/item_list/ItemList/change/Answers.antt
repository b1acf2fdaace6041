use Rattle.std.proofs.Common.{◌≡◌, ℕ, List, length, refl, ap, arith}
use Rattle.snl_lex.specs.Edit.{edit_of}
use Rattle.snl_items.specs.Items.{item_ends, marks_of}
use Rattle.snl_items.proofs.ItemParts.{same_change}
use Rattle.snl_items.proofs.item_list.ItemList.change.Goals as goal

pub returns-then-tokens : goal.returns-then-tokens
returns-then-tokens c =
    let edit = c.args.edit.now in
    let tokens = c.args.tokens.now in
    let old : List ℕ = edit.old.now in
    let many : c.len.result ≡ length (item_ends old) = omega (arith, c.len.ensures, c.args.self.now.ends.ok, ap length c.requires.ends) in
    same_change (edit_of edit) tokens c.requires.tokens c.if-tokens.true _ many c.new.ensures.items refl (c.ends_in_order.ensures.last (marks_of old))
