use Rattle.std.proofs.Common.{◌≡◌, List, Option, ap, sym, subst, ◌∙◌}
use Rattle.snl_item_check.specs.declared.findings.Checked.{Checked}
use Rattle.snl_kept.specs.NewChecks.{AreChecksMade, nones}
use Rattle.snl_kept.proofs.ways.whole.rejudge.recheck_after.Goals as goal

pub returns-clause-kept : goal.returns-clause-kept
returns-clause-kept c =
    let edit = c.args.editing.now.edit.now in
    let items = c.args.editing.now.changes.now.items in
    let vacant : c.in_ok-vacant.vacant.items ≡ nones items.made.items = c.in_ok-vacant.ensures ∙ ap nones c.deref.ensures.value in
    record {
      links = c.in_ok-links.ensures;
      checks = subst (λ (v : List (Option Checked)). AreChecksMade edit.old.now edit.text.now items.kept_front v items.kept_back c.in_ok-made.made.items) (sym vacant) c.in_ok-made.ensures.checks;
    }
