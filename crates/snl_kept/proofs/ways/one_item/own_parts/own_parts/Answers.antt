use Rattle.std.proofs.Common.{◌≡◌, ℕ, ◌<◌, All, List, length, Option, sym, ap, subst, ◌∙◌}
use Rattle.snl_lex.specs.declared.piece.Piece.{Piece}
use Rattle.snl_lex.specs.declared.line_shift.LineShift.{LineShift}
use Rattle.snl_lex.specs.PieceList.{spelled}
use Rattle.snl_lex.specs.Pieces.{LiesIn}
use Rattle.snl_item_check.specs.declared.findings.Checked.{Checked}
use Rattle.snl_kept.specs.declared.plan.NewCheck.{NewCheck}
use Rattle.snl_kept.specs.Checks.{check_by, outlines_in}
use Rattle.snl_kept.specs.Entries.{entry_by}
use Rattle.snl_kept.specs.ReplacedItem.{own_check}
use Rattle.snl_kept.specs.NewChecks.{AreChecksMade, made_at, nones}
use Rattle.snl_kept.proofs.InsideMade.{check_got, diagnostics_after, entry_got, is_there}
use Rattle.snl_lex.specs.Edit.{edit_of}
use Rattle.snl_kept.proofs.OneItem.{made_there, own_lie, own_some}
use Rattle.snl_kept.proofs.ways.one_item.own_parts.own_parts.Goals as goal

pub own_diagnostics-requires-clause-was_some : goal.own_diagnostics-requires-clause-was_some
own_diagnostics-requires-clause-was_some c =
    let old = c.args.one.now.editing.edit.now.old.now in
    let changes = c.args.one.now.editing.changes.now in
    subst (λ (ts : List Piece). 0 < length ts) (sym c.requires.one.own.was) (own_some old changes.items.kept_front (is_there old changes c.requires.one.one) (c.items_end_in_order.ensures old))

pub own_diagnostics-requires-clause-was_within : goal.own_diagnostics-requires-clause-was_within
own_diagnostics-requires-clause-was_within c =
    let old = c.args.one.now.editing.edit.now.old.now in
    subst (All (LiesIn old)) (sym c.requires.one.own.was) (own_lie old c.args.one.now.editing.changes.now.items.kept_front (c.text_in_pieces.ensures.inside old))

pub own_diagnostics-requires-clause-was_spelled : goal.own_diagnostics-requires-clause-was_spelled
own_diagnostics-requires-clause-was_spelled c =
    let old = c.args.one.now.editing.edit.now.old.now in
    let changes = c.args.one.now.editing.changes.now in
    entry_got old changes.items.kept_front c.args.was.entry.now (is_there old changes c.requires.one.one) c.requires.was.entry
    ∙ ap (λ (ts : List Piece). entry_by (spelled old ts)) (sym c.requires.one.own.was)

pub own_diagnostics-requires-clause-was_checked : goal.own_diagnostics-requires-clause-was_checked
own_diagnostics-requires-clause-was_checked c =
    let old = c.args.one.now.editing.edit.now.old.now in
    let changes = c.args.one.now.editing.changes.now in
    let k = changes.items.kept_front in
    check_got old k c.args.was.check.now (is_there old changes c.requires.one.one) c.requires.was.check
    ∙ ap (λ (ts : List Piece). check_by (outlines_in old) k (spelled old ts)) (sym c.requires.one.own.was)
    ∙ ap (λ l. check_by l.outlines k (spelled old c.args.one.now.own.now.was.items)) (sym c.requires.one.editing.lists.links)

pub own_diagnostics-requires-clause-within : goal.own_diagnostics-requires-clause-within
own_diagnostics-requires-clause-within c =
    let text = c.args.one.now.editing.edit.now.text.now in
    subst (All (LiesIn text)) (sym c.requires.one.own.is) (own_lie text c.args.one.now.editing.changes.now.items.kept_front (c.text_in_pieces.ensures.inside text))

pub own_diagnostics-requires-clause-some : goal.own_diagnostics-requires-clause-some
own_diagnostics-requires-clause-some c =
    let edit = c.args.one.now.editing.edit.now in
    let text = edit.text.now in
    let changes = c.args.one.now.editing.changes.now in
    let there = made_there (edit_of edit) changes.tokens.edit changes.items c.requires.one.editing.changes.items c.requires.one.one.one_made c.requires.one.one.one_gone in
    subst (λ (ts : List Piece). 0 < length ts) (sym c.requires.one.own.is) (own_some text changes.items.kept_front there (c.items_end_in_order.ensures text))

pub own_diagnostics-requires-clause-checked : goal.own_diagnostics-requires-clause-checked
own_diagnostics-requires-clause-checked c =
    let text = c.args.one.now.editing.edit.now.text.now in
    let k = c.args.one.now.editing.changes.now.items.kept_front in
    c.requires.check ∙ ap (λ (ts : List Piece). check_by (outlines_in text) k (spelled text ts)) (sym c.requires.one.own.is)

pub returns : goal.returns
returns c =
    let editing = c.args.one.now.editing in
    let old : List ℕ = editing.edit.now.old.now in
    let text : List ℕ = editing.edit.now.text.now in
    let changes = editing.changes.now in
    let k : ℕ = changes.items.kept_front in
    let t : LineShift = c.args.one.now.shift in
    let one = c.requires.replaced in
    let after = c.requires.after in
    let outlines : editing.lists.now.links.outlines ≡ outlines_in old = ap (λ l. l.outlines) c.requires.one.editing.lists.links in
    let kept = c.in_ok-checks.ensures in
    let vacant : c.in_ok-checks.checks.vacant.items ≡ nones changes.items.made.items = kept.vacant in
    let made : c.in_ok-checks.checks.made.items ≡ made_at k (own_check text k) = kept.made ∙ ap (made_at k) c.requires.check in
    record {
      warns = after.warns;
      checks = subst (λ (ms : List NewCheck). AreChecksMade old text k c.in_ok-checks.checks.vacant.items changes.items.kept_back ms) (sym made)
          (subst (λ (vs : List (Option Checked)). AreChecksMade old text k vs changes.items.kept_back (made_at k (own_check text k))) (sym vacant) one.checks);
      stirred = one.stirred ∙ ap (λ (ms : List NewCheck). length ms) (sym made);
      diagnostics = c.in_ok-diagnostics.ensures
          ∙ diagnostics_after old text t k c.args.change c.args.one.now.own.now editing.lists.now.links.outlines editing.lists.now.warns editing.tables.now editing.found.now after c.requires.one.own outlines c.requires.one.editing.lists.warns c.requires.one.editing.tables c.requires.one.editing.found;
      tables = after.tables;
    }
