use Rattle.std.proofs.Common.{◌≡◌, ◌+◌, ◌++◌, Some, drop, length, map, slice_get, refl, sym, ap, append_assoc, ◌∙◌}
use Rattle.std.specs.List.{zip}
use Rattle.std.specs.Option.{option_map}
use Rattle.std.proofs.lemmas.List.{map-append}
use Rattle.std.proofs.lemmas.Option.{slice_get-get_or, slice_get-map, slice_get_past, slice_get_read}
use Rattle.snl_check.specs.Collected.{placed, resolved}
use Rattle.snl_check.proofs.Beside.{zip_more, zip_none, zip_none_more}
use Rattle.snl_check.proofs.rows.item_clauses.resolved_clauses.Goals as goal
use Rattle.snl_check.proofs.rows.item_clauses.resolved_clauses.Goals.{then-number-links+in_ok-push, else-number-links}

pub loop-number-preserved : goal.loop-number-preserved
loop-number-preserved c =
    let n = c.loop-number.number in
    let trees = c.deref-placed-items.result.now in
    let links = c.clauses-links.result.now in
    let so_far = map resolved c.loop-number.clauses.items in
    let rest = zip (drop (n + 1) (map placed trees)) (drop (n + 1) links) in
    let here : slice_get (map placed trees) n ≡ Some (placed c.placed-item.result) =
    slice_get-map placed trees n ∙ ap (option_map placed) (slice_get_read trees (length trees) n c.placed-item.result refl c.loop-number-test.true c.placed-item.is) in
    elim c.if-number-links.branch [
      | then-number-links+in_ok-push w ↦
          ap (λ v. map resolved v.items ++ rest) w.clauses-is ∙ ap (λ l. map resolved l ++ rest) w.in_ok-push.ensures.items
          ∙ ap (λ l. l ++ rest) (map-append resolved c.loop-number.clauses.items _) ∙ append_assoc so_far _ rest
          ∙ ap (λ l. so_far ++ l) (sym (zip_more (map placed trees) links n (placed c.placed-item.result) _ here (slice_get-get_or links n _ w.if-number-links.true)))
          ∙ c.loop-number.invariant
      | else-number-links w ↦
          ap (λ v. map resolved v.items ++ rest) w.clauses-is
          ∙ ap (λ l. so_far ++ l) (zip_none_more (map placed trees) links n (slice_get_past links n w.if-number-links.false) ∙ sym (zip_none (map placed trees) links n (slice_get_past links n w.if-number-links.false)))
          ∙ c.loop-number.invariant
    ]
