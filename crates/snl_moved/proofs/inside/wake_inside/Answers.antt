use Rattle.std.proofs.Common.{◌≡◌, List, IfOk, subst}
use Rattle.snl_tables.specs.declared.rows.WakeUp.{WakeUp}
use Rattle.snl_moved.proofs.ShiftedTables.{SpellingLaws}
use Rattle.snl_moved.proofs.WakesAfter.{channels_now, elements_stay, lists_stay, wakes_after}
use Rattle.snl_moved.proofs.inside.wake_inside.Goals as goal

pub returns : goal.returns
returns c =
    let laws : SpellingLaws = record { named = c.names_are_tokens.ensures; summaries = c.same_spelling_same_summary.ensures.summary } in
    let text = c.args.text.now in
    let item = c.args.item in
    let outlines = c.args.links.now.outlines in
    let rows = c.args.tables.now in
    λ old s line xs ys before read rep is linked tokens same_uses.
    subst (λ (l : List WakeUp). IfOk c.wakes_by_rows.result (λ wake. wake.items ≡ l))
    (wakes_after laws old text s line xs ys item before read rep outlines c.args.uses.now linked same_uses)
    (c.wakes_by_rows.ensures ys (channels_now laws old text s line xs ys item before read rep) tokens
    (elements_stay laws old text s line xs ys item before read rep rows is) (lists_stay laws old text s line xs ys item before read rep rows outlines is linked))
