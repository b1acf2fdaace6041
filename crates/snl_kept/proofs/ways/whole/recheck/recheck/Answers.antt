use Rattle.std.proofs.Common.{◌≡◌, ℕ, ◌+◌, ◌++◌, ◌∷◌, [], List, drop, length, map, ap, sym, ◌∙◌, length-append}
use Rattle.std.specs.List.{enumerate_from, flat_map}
use Rattle.std.proofs.lemmas.Grind.{flat_map-append}
use Rattle.std.proofs.lemmas.List.{append-nil}
use Rattle.snl_cut.specs.Cut.{after_ticks}
use Rattle.snl_kept.specs.declared.plan.NewCheck.{NewCheck}
use Rattle.snl_kept.specs.Parts.{spelled_part}
use Rattle.snl_kept.specs.NewChecks.{made_at, made_for}
use Rattle.snl_kept.proofs.Steps.{added, drop_image}
use Rattle.snl_kept.proofs.Ticks.{ticks_add}
use Rattle.snl_kept.proofs.ways.whole.recheck.recheck.Goals as goal

pub loop-item-preserved : goal.loop-item-preserved
loop-item-preserved c =
    let i = c.loop-item.item in
    let spell = spelled_part c.args.text.now c.args.tokens.now in
    let parts = c.args.parts.now in
    let items = map spell parts in
    let first = c.index-parts-item.result in
    let made_here = made_for c.args.both.before.now.outlines c.args.both.after.now.outlines c.args.both.kept in
    let here : drop i items ≡ spell first ∷ drop (i + 1) items = drop_image spell parts i first c.loop-item-test.true c.index-parts-item.is in
    let one : c.add_made.new.made.items ≡ c.loop-item.made.items ++ made_here (i, spell first) =
    c.in_ok-add_made.ensures ∙ ap (λ (l : List NewCheck). c.loop-item.made.items ++ l) c.in_ok-check.ensures.made in
    record {
      made = added (flat_map made_here) (flat_map-append made_here)
          (enumerate_from i (drop i items))
          ((i, spell first) ∷ [])
          (enumerate_from (i + 1) (drop (i + 1) items))
          _ _ _
          (ap (enumerate_from i) here)
          (one ∙ ap (λ (l : List NewCheck). c.loop-item.made.items ++ l) (sym (append-nil (made_here (i, spell first)))))
          c.loop-item.invariant.made;
      ticks =
          c.in_ok-check.ensures.ticks
          ∙ ap (λ (t : ℕ). after_ticks t (length (made_at i c.in_ok-check.check))) c.loop-item.invariant.ticks
          ∙ ticks_add c.args.work.now (length c.loop-item.made.items) (length (made_at i c.in_ok-check.check))
          ∙ ap (after_ticks c.args.work.now) (sym (ap length c.in_ok-add_made.ensures ∙ length-append c.loop-item.made.items (made_at i c.in_ok-check.check)));
    }
