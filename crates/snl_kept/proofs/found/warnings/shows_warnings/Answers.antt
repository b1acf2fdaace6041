use Rattle.std.proofs.Common.{◌≡◌, ◌+◌, Bool, List, Option, Some, None, drop, map, refl, ap, sym, ◌∙◌}
use Rattle.std.specs.List.{cons_option, enumerate_from, filter_map}
use Rattle.std.specs.Option.{unwrap_or}
use Rattle.snl_kept.specs.Parts.{item_of_part}
use Rattle.snl_kept.specs.Warnings.{last_or, setting_of_item}
use Rattle.snl_kept.proofs.Steps.{drop_image}
use Rattle.snl_kept.proofs.found.warnings.shows_warnings.Goals as goal
use Rattle.snl_kept.proofs.found.warnings.shows_warnings.Goals.{in-Some, in_default}

-- one more item, with what it may say
last_or-more : (default : Bool) (o : Option Bool) (settings : List Bool) → last_or default (cons_option o settings) ≡ last_or (unwrap_or o default) settings
last_or-more default None settings = refl
last_or-more default (Some setting) settings = refl

pub loop-item-preserved : goal.loop-item-preserved
loop-item-preserved c =
    let i = c.loop-item.item in
    let item = item_of_part c.args.tokens.now in
    let xs = map item c.args.parts.now in
    let first = c.index-parts-item.result in
    let setting = setting_of_item c.args.text.now c.args.links.now.outlines in
    let rest = filter_map setting (enumerate_from (i + 1) (drop (i + 1) xs)) in
    let told = c.in_ok-setting.ensures in
    let shown : c.match-setting.shown ≡ unwrap_or (setting (i, item first)) c.loop-item.shown =
    elim c.match-setting.branch [
      | in-Some w ↦ w.shown-is ∙ ap (λ o. unwrap_or o c.loop-item.shown) (sym w.in-Some.is ∙ told)
      | in_default w ↦ w.shown-is ∙ ap (λ o. unwrap_or o c.loop-item.shown) (sym w.in_default.is ∙ told)
    ] in
    ap (λ b. last_or b rest) shown
    ∙ sym (last_or-more c.loop-item.shown (setting (i, item first)) rest)
    ∙ ap (λ l. last_or c.loop-item.shown (filter_map setting (enumerate_from i l))) (sym (drop_image item c.args.parts.now i first c.loop-item-test.true c.index-parts-item.is))
    ∙ c.loop-item.invariant
