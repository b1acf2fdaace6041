use Rattle.std.proofs.Common.{arith, ◌≡◌, ℕ, ◌-◌, ◌++◌, List, length, take, drop, ap, sym, ◌∙◌}
use Rattle.snl_kept.specs.declared.entries.Entry.{Entry}
use Rattle.snl_kept.specs.Checks.{outlines_in}
use Rattle.snl_kept.specs.Entries.{entries_of}
use Rattle.snl_kept.specs.ItemPlan.{outlines_kept}
use Rattle.snl_kept.proofs.InsideMade.{kept_outlines}
use Rattle.snl_kept.proofs.Members.{entries_count}
use Rattle.snl_kept.proofs.ways.whole.relink.keeps_outlines.Goals as goal

pub overflow_sub-back : goal.overflow_sub-back
overflow_sub-back c =
    let old = c.args.editing.now.edit.now.old.now in
    omega (arith, c.len.ensures, ap length c.requires.editing.lists.entries, entries_count old, c.requires.editing.changes.items.order)

pub say_the_same-requires-clause-order : goal.say_the_same-requires-clause-order
say_the_same-requires-clause-order c =
    let old = c.args.editing.now.edit.now.old.now in
    omega (arith, c.len.ensures, ap length c.requires.editing.lists.entries, entries_count old, c.requires.editing.changes.items.order)

-- the entries of the new text say what those of the old one said
same : (old text : List ℕ) (kept : (text : List ℕ) → outlines_kept (entries_of text) ≡ outlines_in text) (front back n : ℕ) (made values : List Entry) → values ≡ entries_of old → n ≡ length values - back
    → entries_of text ≡ take front (entries_of old) ++ (made ++ drop (length (entries_of old) - back) (entries_of old))
    → outlines_kept (take front values ++ (made ++ drop n values)) ≡ outlines_kept values → outlines_in text ≡ outlines_in old
same old text kept front back n made values values_are n_is are says =
    sym (kept text)
    ∙ ap outlines_kept are
    ∙ ap (λ (l : List Entry). outlines_kept (take front l ++ (made ++ drop (length l - back) l))) (sym values_are)
    ∙ ap (λ (k : ℕ). outlines_kept (take front values ++ (made ++ drop k values))) (sym n_is)
    ∙ says
    ∙ ap outlines_kept values_are
    ∙ kept old

pub returns : goal.returns
returns c = λ yes.
    let old = c.args.editing.now.edit.now.old.now in
    let text = c.args.editing.now.edit.now.text.now in
    let items = c.args.editing.now.changes.now.items in
    let kept = kept_outlines c.outcome_told.ensures.tree c.same_spelling_same_tree.ensures.by_spelling c.same_spelling_same_summary.ensures.summary_by_spelling c.same_spelling_same_summary.ensures.bytes_by_spelling in
    same old text kept items.kept_front items.kept_back (c.len.result - items.kept_back) c.args.made.now c.args.editing.now.lists.now.entries.values c.requires.editing.lists.entries (ap (λ (n : ℕ). n - items.kept_back) c.len.ensures) c.requires.made (c.say_the_same.ensures yes)
