use Rattle.std.proofs.Common.{◌≡◌, ◌+◌, ◌++◌, ◌∷◌, [], ap, arith, List, map, sym, take, ◌∙◌}
use Rattle.std.proofs.lemmas.List.{map_more}
use Rattle.snl_summary.specs.declared.summary.ItemKind.{ItemKind}
use Rattle.snl_scope.proofs.items.linked_items.kinds_of.Goals as goal

pub loop-summary-preserved : goal.loop-summary-preserved
loop-summary-preserved c =
    let summaries = c.args.summaries.now in
    let i = c.loop-summary.summary-index in
    let summary = c.summary-item.result in
    let here : List ItemKind = map (λ s. s.now.kind) (take i summaries) in
    let more : map (λ s. s.now.kind) (take (i + 1) summaries) ≡ here ++ summary.now.kind ∷ [] =
    map_more (λ s. s.now.kind) summaries i summary (omega (arith, c.loop-summary-test.true)) ∙ ap (λ s. here ++ s.now.kind ∷ []) (sym c.summary-item.is) in
    c.in_ok-push.ensures.items ∙ ap (λ l. l ++ summary.now.kind ∷ []) c.loop-summary.invariant ∙ sym more
