use Rattle.std.proofs.Common.{◌≡◌, ◌∷◌, ◌++◌, [], ◌+◌, List, ap, append_assoc, arith, map, refl, subst, sym, take, ◌∙◌}
use Rattle.std.proofs.lemmas.List.{append-nil, map_more, take_all}
use Rattle.snl_summary.specs.declared.summary.Outline.{Outline}
use Rattle.snl_scope.specs.OutlineList.{Tells}
use Rattle.snl_scope.proofs.AddedOutlines.{extends_more}
use Rattle.snl_scope.proofs.outlines.making.add_outlines.Goals as goal

pub loop-summary-init : goal.loop-summary-init
loop-summary-init c = record {
  names = record { longer = omega arith; same = λ n h. refl };
  told = λ ss t. subst (Tells c.args.making.now) (sym (append-nil ss)) t;
}

pub loop-summary-preserved : goal.loop-summary-preserved
loop-summary-preserved c =
    let summaries = c.args.summaries.now in
    let i = c.loop-summary.summary-index in
    let s = c.summary-item.result in
    let here : List Outline = map (λ s. s.now.outline) (take i summaries) in
    let more : map (λ s. s.now.outline) (take (i + 1) summaries) ≡ here ++ s.now.outline ∷ [] =
    map_more (λ s. s.now.outline) summaries i s (omega (arith, c.loop-summary-test.true)) ∙ ap (λ x. here ++ x.now.outline ∷ []) (sym c.summary-item.is) in
    record {
      names = extends_more c.args.making.now.names c.loop-summary.making.names c.add_outline.new.making.names c.loop-summary.invariant.names c.in_ok-add_outline.ensures.names;
      told = λ ss t. subst (Tells c.add_outline.new.making) (append_assoc ss here (s.now.outline ∷ []) ∙ ap (λ l. ss ++ l) (sym more))
          (c.in_ok-add_outline.ensures.told (ss ++ here) (c.loop-summary.invariant.told ss t));
    }

pub returns-clause-told : goal.returns-clause-told
returns-clause-told c = λ ss t.
    let summaries = c.args.summaries.now in
    subst (λ l. Tells c.loop-summary.making (ss ++ map (λ s. s.now.outline) l))
    (take_all c.loop-summary.summary-index summaries (omega (arith, c.loop-summary-test.false))) (c.loop-summary.invariant.told ss t)
