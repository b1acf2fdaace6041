use Rattle.std.proofs.Common.{◌≡◌, ◌+◌, ◌++◌, drop, get_or, map, option_map, sym, ap, append_assoc, ◌∙◌, refl}
use Rattle.std.specs.List.{cons_option, filter_map}
use Rattle.std.proofs.lemmas.Option.{slice_get-get_or}
use Rattle.snl_facts.specs.Lists.{at_end}
use Rattle.snl_check.specs.SettingTrees.{as_setting}
use Rattle.snl_check.specs.Settings.{option_row, option_row_of}
use Rattle.snl_check.proofs.Beside.{kept_more}
use Rattle.snl_check.proofs.rows.option_rows.option_rows.Goals as goal
use Rattle.snl_check.proofs.rows.option_rows.option_rows.Goals.{in-Some+in_ok-push, in_default}

pub loop-letter-preserved : goal.loop-letter-preserved
loop-letter-preserved c =
    let row = option_row_of (map as_setting c.args.settings.now) in
    let letters = c.args.letters.now in
    let n = c.loop-letter.letter-index in
    let letter = get_or letters n 0 in
    let so_far = c.loop-letter.rows.items in
    let rest = filter_map row (drop (n + 1) letters) in
    let more : filter_map row (drop n letters) ≡ cons_option (option_map (option_row letter) c.last_setting.result) rest =
    kept_more row letters n letter (slice_get-get_or letters n 0 c.loop-letter-test.true) ∙ ap (λ o. cons_option (option_map (option_row letter) o) rest) (sym c.last_setting.ensures) in
    elim c.match-last_setting.branch [
      | in-Some+in_ok-push w ↦
          ap (λ v. v.items ++ rest) w.rows-is ∙ ap (λ l. l ++ rest) w.in_ok-push.ensures.items ∙ append_assoc so_far _ rest
          ∙ ap (λ l. so_far ++ l) (sym (more ∙ ap (λ o. cons_option (option_map (option_row letter) o) rest) w.in-Some.is)) ∙ c.loop-letter.invariant
      | in_default w ↦
          ap (λ v. v.items ++ rest) w.rows-is ∙ ap (λ l. so_far ++ l) (sym (more ∙ ap (λ o. cons_option (option_map (option_row letter) o) rest) w.in_default.is)) ∙ c.loop-letter.invariant
    ]

pub returns : goal.returns
returns c =
    at_end (filter_map (option_row_of (map as_setting c.args.settings.now))) refl c.args.letters.now c.loop-letter.letter-index c.loop-letter.rows.items _ c.loop-letter-test.false c.loop-letter.invariant
