use Rattle.std.proofs.Common.{arith, ◌≡◌, ◌+◌, ◌-◌, ◌<◌, ◌∷◌, ◌++◌, [], All, length, drop, get_or, ap, sym, subst, ◌∙◌}
use Rattle.std.proofs.lemmas.List.{append-nil, drop_all, drop_more}
use Rattle.std.proofs.lemmas.List.Elements.{All-drop, All-push, All-take}
use Rattle.snl_item_check.specs.Items.{EndsWithin}
use Rattle.snl_lex.specs.Pieces.{LiesIn}
use Rattle.snl_reading.specs.ItemsRead.{ReadFrom, items_read}
use Rattle.snl_reading.proofs.Along.{are_items, item_between, items_from, one_more}
use Rattle.snl_reading.proofs.items.items_of.Goals as goal
use Rattle.snl_facts.specs.Lists.{drop_here}

pub loop-number-preserved : goal.loop-number-preserved
loop-number-preserved c =
    let tokens = c.args.tokens.now in
    let ends = c.args.ends.now in
    let trees = c.args.trees.now in
    let i = c.loop-number.number in
    let start = c.loop-number.start in
    let stop = get_or ends i 0 in
    let tree = c.index-trees-number.result in
    let done = c.loop-number.items.items in
    let within : i < length trees = omega (arith, c.loop-number-test.true, c.requires.each) in
    let here : drop i ends ≡ stop ∷ drop (i + 1) ends = drop_more ends i 0 c.loop-number-test.true in
    let there : drop i trees ≡ tree ∷ drop (i + 1) trees = drop_here trees i tree within c.index-trees-number.is in
    let left : EndsWithin start (stop ∷ drop (i + 1) ends) (length tokens) = subst (λ l. EndsWithin start l (length tokens)) here c.loop-number.invariant.ends in
    record {
      ends = left.2;
      along = one_more tokens start stop (drop (i + 1) ends) tree (drop (i + 1) trees) done _ _ _ c.in_ok-push.ensures.items
          (ap (item_between tokens start stop) c.as_ref.ensures.value)
          (sym (ap (λ l. items_read done ++ items_from tokens start l (drop i trees)) here ∙ ap (λ l. items_read done ++ items_from tokens start (stop ∷ drop (i + 1) ends) l) there) ∙ c.loop-number.invariant.along);
      inside = λ text lie.
          subst (All (ReadFrom text)) (sym c.in_ok-push.ensures.items)
          (All-push (ReadFrom text) done _ (c.loop-number.invariant.inside text lie) (All-take (LiesIn text) (stop - start) (drop start tokens) (All-drop (LiesIn text) start tokens lie)));
    }

pub returns-clause-items : goal.returns-clause-items
returns-clause-items c = λ text is.
    let tokens = c.args.tokens.now in
    let ends = c.args.ends.now in
    let trees = c.args.trees.now in
    let i = c.loop-number.number in
    let done = items_read c.loop-number.items.items in
    let none : drop i ends ≡ [] = drop_all i ends (omega arith) in
    are_items text tokens ends trees done (c.text_in_pieces.ensures.inside text) is c.requires.within c.requires.each
    (sym (append-nil done) ∙ ap (λ l. done ++ items_from tokens c.loop-number.start l (drop i trees)) (sym none) ∙ c.loop-number.invariant.along)
