use Rattle.std.proofs.Common.{arith, ◌≤◌, length, map, take, ap, ◌∙◌}
use Rattle.std.proofs.lemmas.List.{take_all}
use Rattle.std.proofs.lemmas.Simd.{map-map}
use Rattle.snl_summary.specs.declared.summary.Outline.{Outline}
use Rattle.snl_summary.specs.declared.summary.Summary.{Summary}
use Rattle.snl_item_check.specs.Items.{summary_of_item}
use Rattle.snl_reading.specs.ItemsRead.{items_read}
use Rattle.snl_reading.proofs.linking.summaries_of.Goals as goal

pub returns-clause-outlines : goal.returns-clause-outlines
returns-clause-outlines c =
    let items = c.args.items.now in
    let all : length items ≤ c.loop-item.item-index = omega arith in
    let outline : Summary → Outline = λ s. s.outline in
    ap (map outline) c.loop-item.invariant
    ∙ map-map outline (summary_of_item c.args.text.now) (items_read (take c.loop-item.item-index items))
    ∙ ap (λ xs. map (λ x. outline (summary_of_item c.args.text.now x)) (items_read xs)) (take_all c.loop-item.item-index items all)
