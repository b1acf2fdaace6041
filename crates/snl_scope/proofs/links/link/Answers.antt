use Rattle.std.proofs.Common.{◌≡◌, map, sym, ◌∙◌}
use Rattle.std.proofs.lemmas.Result.{IfOk-weaker}
use Rattle.snl_scope.specs.LinkedItems.{LinkedItems, linked_items}
use Rattle.std.proofs.lemmas.Simd.{map-map}
use Rattle.snl_scope.proofs.links.link.Goals as goal

pub returns : goal.returns
returns c =
    let summaries = c.args.summaries.now in
    let outlines : c.in_ok-outlines.outlines.outlines ≡ map (λ s. s.outline) (map (λ s. s.now) summaries) =
    c.in_ok-outlines.ensures ∙ sym (map-map (λ s. s.outline) (λ s. s.now) summaries) in
    let kinds : c.in_ok-kinds.kinds.items ≡ map (λ s. s.kind) (map (λ s. s.now) summaries) =
    c.in_ok-kinds.ensures ∙ sym (map-map (λ s. s.kind) (λ s. s.now) summaries) in
    let made : LinkedItems = record { outlines = c.in_ok-outlines.outlines.outlines; kinds = c.in_ok-kinds.kinds.items } in
    let same : made ≡ linked_items (map (λ s. s.now) summaries) = λ j. record { outlines = outlines j; kinds = kinds j } in
    IfOk-weaker c.link_outlines.result (λ l. l ≡ made) (λ l. l ≡ linked_items (map (λ s. s.now) summaries)) (λ l e. e ∙ same) c.link_outlines.ensures
