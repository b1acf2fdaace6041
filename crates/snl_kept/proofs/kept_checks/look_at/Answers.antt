use Rattle.std.proofs.Common.{arith, ◌≡◌, ◌+◌, ◌∷◌, List, drop, map, Option, Bor, sym, ap, ◌∙◌}
use Rattle.std.proofs.lemmas.List.{length-map, map-set, set_past}
use Rattle.snl_item_check.specs.declared.findings.Checked.{Checked}
use Rattle.snl_kept.specs.NewChecks.{put}
use Rattle.snl_kept.proofs.kept_checks.look_at.Goals as goal
use Rattle.snl_kept.proofs.kept_checks.look_at.Goals.{then-one-len, else-one-len}
use Rattle.snl_facts.specs.Lists.{drop_here}

pub loop-one-preserved : goal.loop-one-preserved
loop-one-preserved c =
    let made = c.args.made.now in
    let i = c.loop-one.one-index in
    let one = c.one-item.result in
    let now = λ (k : Bor (Option Checked)). k.now in
    let checks = c.loop-one.checks.items in
    let left = drop (i + 1) made in
    let before : put (map now checks) (one ∷ left) ≡ put (map now c.args.checks.now.items) made =
    ap (put (map now checks)) (sym (drop_here made i one c.loop-one-test.true c.one-item.is)) ∙ c.loop-one.invariant in
    elim c.if-one-len.branch [
      | then-one-len w ↦ rw w.checks-is (ap (λ (l : List (Option Checked)). put l left) (map-set now checks one.item _) ∙ before)
      | else-one-len w ↦
          rw w.checks-is
          (ap (λ (l : List (Option Checked)). put l left) (sym (set_past (map now checks) one.item one.check (omega (arith, w.if-one-len.false, c.len.ensures, length-map checks now)))) ∙ before)
    ]
