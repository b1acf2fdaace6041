use Rattle.std.proofs.Common.{◌≡◌, ◌+◌, ◌++◌, drop, sym, ap, append_assoc, ◌∙◌, refl}
use Rattle.std.specs.List.{cons_option, filter_map}
use Rattle.std.proofs.lemmas.Option.{slice_get-get_or}
use Rattle.snl_facts.specs.Lists.{at_end}
use Rattle.snl_check.specs.Collected.{items_in}
use Rattle.snl_check.specs.Tables.{flag_row_at}
use Rattle.snl_check.proofs.Beside.{kept_more}
use Rattle.snl_check.proofs.rows.flag_rows.flag_rows.Goals as goal
use Rattle.snl_check.proofs.rows.flag_rows.flag_rows.Goals.{in-Some+in_ok-push, in_default}

pub loop-number-preserved : goal.loop-number-preserved
loop-number-preserved c =
    let p = c.args.row_source.now in
    let row = flag_row_at (items_in p.program) p.links.now.outlines in
    let numbers = c.flags-number-items.result.now in
    let n = c.loop-number.number-index in
    let so_far = c.loop-number.rows.items in
    let rest = filter_map row (drop (n + 1) numbers) in
    let more : filter_map row (drop n numbers) ≡ cons_option c.flag_row_at.result rest =
    kept_more row numbers n _ (slice_get-get_or numbers n _ c.loop-number-test.true) ∙ ap (λ o. cons_option o rest) (sym c.flag_row_at.ensures) in
    elim c.match-flag_row_at.branch [
      | in-Some+in_ok-push w ↦
          ap (λ v. v.items ++ rest) w.rows-is ∙ ap (λ l. l ++ rest) w.in_ok-push.ensures.items ∙ append_assoc so_far _ rest
          ∙ ap (λ l. so_far ++ l) (sym (more ∙ ap (λ o. cons_option o rest) w.in-Some.is)) ∙ c.loop-number.invariant
      | in_default w ↦ ap (λ v. v.items ++ rest) w.rows-is ∙ ap (λ l. so_far ++ l) (sym (more ∙ ap (λ o. cons_option o rest) w.in_default.is)) ∙ c.loop-number.invariant
    ]

pub returns : goal.returns
returns c =
    let p = c.args.row_source.now in
    let rows = filter_map (flag_row_at (items_in p.program) p.links.now.outlines) in
    at_end rows refl c.flags-number-items.result.now c.loop-number.number-index c.loop-number.rows.items _ c.loop-number-test.false c.loop-number.invariant ∙ ap rows c.flags-number-items.ensures
