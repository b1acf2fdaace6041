use Rattle.std.proofs.Common.{arith, ◌≡◌, List, length, ap, sym, ◌∙◌}
use Rattle.std.proofs.lemmas.List.{length-map, length-set}
use Rattle.snl_kept.specs.declared.entries.Entry.{Entry}
use Rattle.snl_kept.specs.Entries.{entries_of}
use Rattle.snl_kept.proofs.InsideMade.{kept_outlines}
use Rattle.snl_kept.proofs.SetMembers.{all_members}
use Rattle.snl_kept.proofs.ways.one_item.set_members.set_members.Goals as goal

pub returns : goal.returns
returns c =
    let text = c.args.text.now in
    let es : List Entry = c.args.entries.now.values in
    let kept = kept_outlines c.outcome_told.ensures.tree c.same_spelling_same_tree.ensures.by_spelling c.same_spelling_same_summary.ensures.summary_by_spelling c.same_spelling_same_summary.ensures.bytes_by_spelling text in
    let count : length es ≡ length c.args.links.now.outlines =
    sym (length-set es c.args.item c.args.made.now)
    ∙ sym (ap length c.requires.entries)
    ∙ sym (length-map (entries_of text) (λ (e : Entry). e.summary.outline))
    ∙ ap length kept
    ∙ sym (ap length c.requires.outlines) in
    let all : c.loop-number.number ≡ length c.args.links.now.outlines = omega (arith, c.loop-number-test.false, c.loop-number.auto.number-end, c.len-number-end.ensures, count) in
    all_members text c.args.links.now.outlines c.args.set c.loop-number.number c.loop-number.members.items all c.loop-number.invariant
