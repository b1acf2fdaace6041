use Rattle.std.proofs.Common.{◌≡◌, ℕ, List, ◌++◌, ◌-◌, length, take, drop, map, ap, sym, subst, ◌∙◌}
use Rattle.std.specs.List.{All}
use Rattle.std.proofs.lemmas.List.Elements.{All-filter}
use Rattle.snl_cut.specs.Cut.{last_end, members, moved}
use Rattle.snl_lex.specs.PieceList.{spelled}
use Rattle.snl_lex.specs.Pieces.{LiesIn, is_token, pieces_of, tokens_of}
use Rattle.snl_items.specs.Items.{item_ends, spellings}
use Rattle.snl_kept.specs.declared.entries.Entry.{Entry}
use Rattle.snl_kept.specs.Entries.{entry_by}
use Rattle.snl_kept.specs.Parts.{EndsWithin}
use Rattle.snl_kept.specs.Planned.{AreEntriesMade}
use Rattle.snl_kept.proofs.Members.{entries_made, middle_within}
use Rattle.snl_kept.proofs.ways.whole.whole_plan.made_entries.Goals as goal

-- the ends that are made are among all ends
made_within : (ends all : List ℕ) (front from b c k : ℕ) (made : List ℕ) (count : ℕ) → from ≡ last_end 0 (take front ends) → all ≡ (take front ends ++ made) ++ moved b c (drop k ends)
    → EndsWithin 0 all count → EndsWithin from made count
made_within ends all front from b c k made count from_is all_is h =
    subst (λ n. EndsWithin n made count) (sym from_is)
    (middle_within 0 (take front ends) made (moved b c (drop k ends)) count (subst (λ l. EndsWithin 0 l count) all_is h))

pub entries_along-requires-clause-ends : goal.entries_along-requires-clause-ends
entries_along-requires-clause-ends c =
    let old = c.args.editing.now.edit.now.old.now in
    let text = c.args.editing.now.edit.now.text.now in
    let changes = c.args.editing.now.changes.now in
    let edit = changes.tokens.edit in
    let ends = item_ends old in
    let from : c.start_of-from.result ≡ last_end 0 (take changes.items.kept_front ends) =
    c.start_of-from.ensures ∙ ap (λ l. last_end 0 (take changes.items.kept_front l)) c.requires.editing.lists.items in
    subst (λ l. EndsWithin c.start_of-from.result l (length c.args.tokens.now)) (sym c.deref.ensures.value)
    (subst (λ l. EndsWithin c.start_of-from.result changes.items.made.items (length l)) (sym c.requires.tokens)
    (made_within ends (item_ends text) changes.items.kept_front c.start_of-from.result edit.old_stop edit.new_stop (length ends - changes.items.kept_back) changes.items.made.items (length (tokens_of text))
    from c.requires.editing.changes.items.ends (c.items_end_in_order.ensures text)))

pub entries_along-requires-clause-within : goal.entries_along-requires-clause-within
entries_along-requires-clause-within c =
    let text = c.args.editing.now.edit.now.text.now in
    subst (All (LiesIn text)) (sym c.requires.tokens) (All-filter is_token (LiesIn text) (pieces_of text) (c.text_in_pieces.ensures.inside text))

pub returns-clause-made : goal.returns-clause-made
returns-clause-made c =
    let old = c.args.editing.now.edit.now.old.now in
    let text = c.args.editing.now.edit.now.text.now in
    let items = c.args.editing.now.changes.now.items in
    let from = last_end 0 (take items.kept_front (item_ends old)) in
    let made : c.in_ok-made.made.items ≡ map entry_by (members (spellings text) from items.made.items) =
    c.in_ok-made.ensures.entries
    ∙ ap (λ n. map entry_by (members (spelled text c.args.tokens.now) n c.deref.result.now)) (c.start_of-from.ensures ∙ ap (λ l. last_end 0 (take items.kept_front l)) c.requires.editing.lists.items)
    ∙ ap (λ l. map entry_by (members (spelled text c.args.tokens.now) from l)) c.deref.ensures.value
    ∙ ap (λ ts. map entry_by (members (spelled text ts) from items.made.items)) c.requires.tokens in
    subst (λ (es : List Entry). AreEntriesMade old text items.kept_front es items.kept_back) (sym made)
    (entries_made old text items.kept_front from items.made.items items.kept_back c.requires.editing.changes.items.items)
