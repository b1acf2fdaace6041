use Rattle.std.proofs.Common.{◌++◌, ◌∷◌, [], List, Option, get_or, take, ap, sym, ◌∙◌}
use Rattle.std.proofs.lemmas.List.{map-append, drop_more}
use Rattle.snl_item_check.specs.declared.findings.Checked.{Checked}
use Rattle.snl_kept.specs.NewChecks.{no_check, nones}
use Rattle.snl_kept.proofs.Steps.{take_more}
use Rattle.snl_kept.proofs.kept_checks.vacant_for.Goals as goal

pub loop-end-preserved : goal.loop-end-preserved
loop-end-preserved c =
    let ends = c.args.ends.now in
    let i = c.loop-end._end-index in
    c.in_ok-push.ensures.items
    ∙ ap (λ (o : Option Checked). c.loop-end.vacant.items ++ o ∷ []) (c.in_ok-share.ensures ∙ c.in_ok-none.ensures)
    ∙ ap (λ (l : List (Option Checked)). l ++ no_check 0 ∷ []) c.loop-end.invariant
    ∙ sym (map-append no_check (take i ends) (get_or ends i 0 ∷ []))
    ∙ ap nones (sym (take_more ends i (get_or ends i 0) (drop_more ends i 0 c.loop-end-test.true)))
