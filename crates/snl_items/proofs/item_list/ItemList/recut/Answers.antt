use Rattle.std.proofs.Common.{◌≡◌, ℕ, ◌-◌, ◌<◌, ◌^◌, List, ◌++◌, length, take, drop, sym, ap₂, ◌∙◌, arith}
use Rattle.std.proofs.lemmas.List.Elements.{All-same}
use Rattle.snl_cut.specs.Cut.{IsRecut, moved}
use Rattle.snl_lex.specs.Edit.{edit_of}
use Rattle.snl_grammar.specs.declared.marks.Mark.{Mark}
use Rattle.snl_grammar.specs.Items.{item}
use Rattle.snl_items.specs.Items.{item_ends, marks_of, spellings}
use Rattle.snl_items.proofs.EndPlaces.{made_within}
use Rattle.snl_items.proofs.ItemParts.{cut_again, recut_of}
use Rattle.snl_items.proofs.item_list.ItemList.recut.Goals as goal

pub narrowed-requires : goal.narrowed-requires
narrowed-requires c =
    let edit = c.args.edit.now in
    let e = c.args.tokens.now.edit in
    let old : List ℕ = edit.old.now in
    let text : List ℕ = edit.text.now in
    let front : ℕ = c.in_ok-cut.cut.kept_front in
    let back : ℕ = c.in_ok-cut.cut.kept_back in
    let made : List ℕ = c.in_ok-cut.cut.made.items in
    let old_marks : c.deref-3.result.now ≡ marks_of old = c.deref-3.ensures.value ∙ c.requires.marks in
    let new_marks : c.deref-5.result.now ≡ marks_of text =
    c.deref-5.ensures.value ∙ c.in_ok-marks.ensures
    ∙ ap₂ (λ (x y : List Mark). take e.start x ++ (y ++ drop e.old_stop x)) (c.deref.ensures.value ∙ c.requires.marks) c.deref-2.ensures.value
    ∙ sym c.requires.tokens.marks in
    let recut : IsRecut item (marks_of old) (item_ends old) (marks_of text) e.start e.old_stop e.new_stop front made back =
    recut_of c.deref-3.result.now c.deref-5.result.now c.deref-4.result.now e.start e.old_stop e.new_stop front made back (marks_of old) (marks_of text) (item_ends old)
    old_marks new_marks (c.deref-4.ensures.value ∙ c.requires.ends) c.in_ok-cut.ensures.recut in
    let all = c.recut_is_cut.ensures (marks_of old) (marks_of text) e.start e.old_stop e.new_stop front made back recut in
    All-same (λ n. n < 2 ^ 32) c.deref-6.result.now made c.deref-6.ensures.value
    (made_within (take front (item_ends old)) made (moved e.old_stop e.new_stop (drop (length (item_ends old) - back) (item_ends old))) (item_ends text) (length (marks_of text)) all
    (c.ends_in_order.ensures.within (marks_of text)) (omega (arith, c.few_tokens.ensures text, edit.short.1)))

pub returns : goal.returns
returns c =
    let edit = c.args.edit.now in
    let tokens = c.args.tokens.now in
    let e = tokens.edit in
    let old : List ℕ = edit.old.now in
    let text : List ℕ = edit.text.now in
    let front : ℕ = c.in_ok-cut.cut.kept_front in
    let back : ℕ = c.in_ok-cut.cut.kept_back in
    let made : List ℕ = c.in_ok-cut.cut.made.items in
    let old_marks : c.deref-3.result.now ≡ marks_of old = c.deref-3.ensures.value ∙ c.requires.marks in
    let new_marks : c.deref-5.result.now ≡ marks_of text =
    c.deref-5.ensures.value ∙ c.in_ok-marks.ensures
    ∙ ap₂ (λ (x y : List Mark). take e.start x ++ (y ++ drop e.old_stop x)) (c.deref.ensures.value ∙ c.requires.marks) c.deref-2.ensures.value
    ∙ sym c.requires.tokens.marks in
    let recut : IsRecut item (marks_of old) (item_ends old) (marks_of text) e.start e.old_stop e.new_stop front made back =
    recut_of c.deref-3.result.now c.deref-5.result.now c.deref-4.result.now e.start e.old_stop e.new_stop front made back (marks_of old) (marks_of text) (item_ends old)
    old_marks new_marks (c.deref-4.ensures.value ∙ c.requires.ends) c.in_ok-cut.ensures.recut in
    let made_is = c.made_are_fresh.ensures (marks_of old) (marks_of text) e.start e.old_stop e.new_stop front made back recut in
    let joined_is = c.recut_is_cut.ensures (marks_of old) (marks_of text) e.start e.old_stop e.new_stop front made back recut in
    let items_are = c.members_stay.ensures (marks_of old) (marks_of text) e.start e.old_stop e.new_stop front made back (spellings old) (spellings text) c.requires.tokens.of_spellings recut in
    cut_again (edit_of edit) tokens c.requires.tokens c.requires.other _
    (rw (c.in_ok-narrowed.ensures, c.deref-6.ensures.value) recut)
    (rw (c.in_ok-narrowed.ensures, c.deref-6.ensures.value) made_is)
    (rw (c.in_ok-narrowed.ensures, c.deref-6.ensures.value) joined_is)
    (rw (c.in_ok-narrowed.ensures, c.deref-6.ensures.value) items_are)
