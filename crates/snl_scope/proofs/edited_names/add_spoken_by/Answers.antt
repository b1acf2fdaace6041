use Rattle.std.proofs.Common.{◌≡◌, ℕ, ◌+◌, ◌++◌, ◌∷◌, [], List, ap, arith, map, sym, take, ◌∙◌}
use Rattle.std.proofs.lemmas.List.{flat_map_more, map_more}
use Rattle.snl_summary.specs.declared.summary.Outline.{Outline}
use Rattle.snl_scope.specs.Spoken.{spoken, spoken_by}
use Rattle.snl_scope.proofs.edited_names.add_spoken_by.Goals as goal

pub loop-outline-preserved : goal.loop-outline-preserved
loop-outline-preserved c =
    let outlines = c.args.outlines.now in
    let i = c.loop-outline.outline-index in
    let outline = c.outline-item.result in
    let before : List (List ℕ) = map (λ n. n.now) c.args.names.now.items in
    let here : List Outline = map (λ s. s.now) (take i outlines) in
    let more : map (λ s. s.now) (take (i + 1) outlines) ≡ here ++ outline.now ∷ [] =
    map_more (λ s. s.now) outlines i outline (omega (arith, c.loop-outline-test.true)) ∙ ap (λ s. here ++ s.now ∷ []) (sym c.outline-item.is) in
    c.in_ok-add_spoken.ensures ∙ ap (λ l. l ++ spoken outline.now) c.loop-outline.invariant ∙ flat_map_more spoken before here outline.now
    ∙ ap (λ l. before ++ spoken_by l) (sym more)
