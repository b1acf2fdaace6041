use Rattle.std.proofs.Common.{◌≡◌, ◌<◌, All, List, [], ◌∷◌, length, take, sym, ap, subst, ◌∙◌}
use Rattle.snl_cut.specs.Cut.{last_end}
use Rattle.snl_lex.specs.declared.piece.Piece.{Piece}
use Rattle.snl_lex.specs.Edit.{edit_of}
use Rattle.snl_lex.specs.PieceList.{spelled}
use Rattle.snl_lex.specs.Pieces.{LiesIn}
use Rattle.snl_items.specs.Items.{item_ends}
use Rattle.snl_kept.specs.declared.entries.Entry.{Entry}
use Rattle.snl_kept.specs.Entries.{entry_by}
use Rattle.snl_kept.specs.ReplacedItem.{own_tokens}
use Rattle.snl_kept.specs.Planned.{AreEntriesMade}
use Rattle.snl_kept.proofs.Members.{entries_made}
use Rattle.snl_kept.proofs.OneItem.{made_there, one_member, own_lie, own_some}
use Rattle.snl_kept.proofs.ways.one_item.replaced.made_alone.Goals as goal

pub entry_of-requires-clause-within : goal.entry_of-requires-clause-within
entry_of-requires-clause-within c =
    let text = c.args.one.now.editing.edit.now.text.now in
    let k = c.args.one.now.editing.changes.now.items.kept_front in
    subst (All (LiesIn text)) (sym (c.deref.ensures.value ∙ c.requires.one.own.is)) (own_lie text k (c.text_in_pieces.ensures.inside text))

pub entry_of-requires-clause-some : goal.entry_of-requires-clause-some
entry_of-requires-clause-some c =
    let edit = c.args.one.now.editing.edit.now in
    let text = edit.text.now in
    let changes = c.args.one.now.editing.changes.now in
    let k = changes.items.kept_front in
    let there = made_there (edit_of edit) changes.tokens.edit changes.items c.requires.one.editing.changes.items c.requires.one.one.one_made c.requires.one.one.one_gone in
    subst (λ (ts : List Piece). 0 < length ts) (sym (c.deref.ensures.value ∙ c.requires.one.own.is)) (own_some text k there (c.items_end_in_order.ensures text))

pub returns-clause-made : goal.returns-clause-made
returns-clause-made c =
    let edit = c.args.one.now.editing.edit.now in
    let old = edit.old.now in
    let text = edit.text.now in
    let changes = c.args.one.now.editing.changes.now in
    let k = changes.items.kept_front in
    let made = changes.items.made.items in
    let back = changes.items.kept_back in
    let change = c.requires.one.editing.changes.items in
    let own : c.deref.result.now ≡ own_tokens text k = c.deref.ensures.value ∙ c.requires.one.own.is in
    let entry : c.in_ok-entry.entry ≡ entry_by (spelled text (own_tokens text k)) = c.in_ok-entry.ensures.entry ∙ ap (λ (ts : List Piece). entry_by (spelled text ts)) own in
    let one : c.in_ok-made.made.items ≡ entry_by (spelled text (own_tokens text k)) ∷ [] = c.in_ok-made.ensures ∙ ap (λ (e : Entry). let es : List Entry = e ∷ [] in es) entry in
    subst (λ (es : List Entry). AreEntriesMade old text k es back)
    (one_member (edit_of edit) changes.tokens.edit changes.items change c.requires.one.one.one_made c.requires.one.one.one_gone ∙ sym one)
    (entries_made old text k (last_end 0 (take k (item_ends old))) made back change.items)
