use Rattle.std.proofs.Common.{arith, ◌≡◌, ℕ, ◌+◌, ◌-◌, List, length, take, sym, ap, ap₂, ◌∙◌, add-one}
use Rattle.snl_cut.specs.Cut.{last_end}
use Rattle.snl_lex.specs.Pieces.{tokens_of}
use Rattle.snl_items.specs.Items.{item_ends}
use Rattle.snl_lex.specs.Edit.{edit_of}
use Rattle.snl_kept.specs.Parts.{tokens_between}
use Rattle.snl_kept.specs.ReplacedItem.{own_start}
use Rattle.snl_kept.proofs.OneItem.{begins, end_moves, end_within, ends as ends_at}
use Rattle.snl_kept.proofs.ways.one_item.replaced.own_tokens.Goals as goal

pub own_tokens_before-requires-clause-inside : goal.own_tokens_before-requires-clause-inside
own_tokens_before-requires-clause-inside c =
    let old = c.args.editing.now.edit.now.old.now in
    let after : ℕ = c.args.editing.now.changes.now.items.kept_front + 1 in
    omega (
      arith,
      c.start_of-stop.ensures,
      ap (λ l. last_end 0 (take after l)) c.requires.editing.lists.items,
      end_within 0 after (item_ends old) (length (tokens_of old)) (omega arith) (c.items_end_in_order.ensures old),
    )

pub own_tokens_after-requires-clause-inside : goal.own_tokens_after-requires-clause-inside
own_tokens_after-requires-clause-inside c =
    let old = c.args.editing.now.edit.now.old.now in
    let after : ℕ = c.args.editing.now.changes.now.items.kept_front + 1 in
    omega (
      arith,
      c.start_of-stop.ensures,
      ap (λ l. last_end 0 (take after l)) c.requires.editing.lists.items,
      end_within 0 after (item_ends old) (length (tokens_of old)) (omega arith) (c.items_end_in_order.ensures old),
    )

pub returns : goal.returns
returns c =
    let edit = c.args.editing.now.edit.now in
    let old : List ℕ = edit.old.now in
    let text : List ℕ = edit.text.now in
    let changes = c.args.editing.now.changes.now in
    let tokens = changes.tokens.edit in
    let k : ℕ = changes.items.kept_front in
    let change = c.requires.editing.changes.items in
    let one = c.requires.one in
    let ends = c.requires.editing.lists.items in
    let first : c.start_of-first.result ≡ own_start old k = c.start_of-first.ensures ∙ ap (λ (l : List ℕ). last_end 0 (take k l)) ends in
    let stop : c.start_of-stop.result ≡ own_start old (k + 1) = c.start_of-stop.ensures ∙ ap (λ (l : List ℕ). last_end 0 (take (k + 1) l)) ends in
    let begins = begins (edit_of edit) tokens changes.items change one.one_made one.one_gone in
    let ended = ends_at (edit_of edit) tokens changes.items change one.one_made one.one_gone in
    let moves = end_moves (edit_of edit) tokens changes.items change one.one_made one.one_gone in
    record {
      was = c.in_ok-was.ensures ∙ ap₂ (λ (a b : ℕ). tokens_between (tokens_of old) a b) first stop;
      is = c.in_ok-is.ensures
          ∙ ap₂ (λ (a b : ℕ). tokens_between (tokens_of text) a ((b - tokens.old_stop) + tokens.new_stop)) first stop
          ∙ sym (ap₂ (λ (a b : ℕ). tokens_between (tokens_of text) a b) begins
          (ended ∙ moves ∙ ap (λ (n : ℕ). (last_end 0 (take n (item_ends old)) - tokens.old_stop) + tokens.new_stop) (sym (add-one k))));
    }
