use Rattle.std.proofs.Common.{◌≡◌, ℕ, List, ◌++◌, map, ap, ◌∙◌, append_assoc}
use Rattle.snl_kept.specs.declared.found.findings.Finding.{Finding}
use Rattle.snl_kept.specs.Checked.{checked_faults}
use Rattle.snl_kept.specs.Diagnostics.{found, shown, shown_if, shown_of}
use Rattle.snl_kept.specs.Faults.{faults_of}
use Rattle.snl_kept.specs.Linked.{linked_faults}
use Rattle.snl_kept.specs.Parts.{item_of_part}
use Rattle.snl_kept.specs.Program.{ProgramItem, items_of}
use Rattle.snl_kept.specs.Tables.{walked_faults, walked_in}
use Rattle.snl_kept.proofs.Trees.{same_items, tokens_lie}
use Rattle.snl_kept.proofs.found.judge.shown_by.Goals as goal

regroup : (a b c d : List Finding) → ((a ++ b) ++ c) ++ d ≡ a ++ b ++ c ++ d
regroup a b c d = simp append_assoc

-- what is shown of the findings of these items is what is shown of the text
same_shown : (text : List ℕ) (xs : List ProgramItem) (all : List Finding) → xs ≡ items_of text →
    all ≡ shown_of text xs (((faults_of text xs ++ linked_faults text xs) ++ checked_faults text xs) ++ walked_faults text xs) → all ≡ shown text
unfolding found shown
same_shown text xs all items is =
    is
    ∙ ap (shown_of text xs) (regroup (faults_of text xs) (linked_faults text xs) (checked_faults text xs) (walked_faults text xs))
    ∙ ap (λ ys. shown_of text ys (faults_of text ys ++ linked_faults text ys ++ checked_faults text ys ++ walked_faults text ys)) items

pub returns : goal.returns
returns c =
    let cut = c.args.cut.now in
    let text = cut.text.now in
    let xs = map (item_of_part cut.tokens.now) c.args.parts.now in
    let items : xs ≡ items_of text = same_items text cut.tokens.now cut.ends.now xs cut.tokens_are cut.ends_are c.requires.items in
    same_shown text xs c.keep_shown.new.found.items items
    (c.keep_shown.ensures
    ∙ ap (λ w. shown_if w c.add_walked_faults.new.found.items) c.requires.warns
    ∙ ap (shown_of text xs) (c.in_ok-add_walked_faults.ensures
    ∙ ap (λ t. c.add_checked_faults.new.found.items ++ walked_in t) c.requires.tables
    ∙ ap (λ l. l ++ walked_faults text xs) (c.in_ok-add_checked_faults.ensures ∙ ap (λ l. l ++ checked_faults text xs) (c.in_ok-add_linked_faults.ensures ∙ ap (λ l. l ++ linked_faults text xs) (c.in_ok-add_faults.ensures ∙ ap (λ l. l ++ faults_of text xs) c.new-shown.ensures.items)))))

pub add_checked_faults-requires-clause-tokens : goal.add_checked_faults-requires-clause-tokens
add_checked_faults-requires-clause-tokens c =
    let cut = c.args.cut.now in
    tokens_lie cut.text.now cut.tokens.now cut.tokens_are (c.text_in_pieces.ensures.inside cut.text.now)
