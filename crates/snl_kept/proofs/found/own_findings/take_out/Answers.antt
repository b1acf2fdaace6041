use Rattle.std.proofs.Common.{sym, ap, ◌∙◌}
use Rattle.std.specs.List.{position}
use Rattle.snl_kept.specs.OwnFindings.{is_same}
use Rattle.snl_kept.proofs.OwnPlaces.{kept_is, removed_is}
use Rattle.snl_kept.proofs.found.own_findings.take_out.Goals as goal

pub returns-in-Some : goal.returns-in-Some
returns-in-Some c =
    c.remove.ensures.items
    ∙ removed_is c.args.finding.now c.args.found.now.items c.in-Some.place (ap (position (is_same c.args.finding.now)) (sym c.deref.ensures.value) ∙ sym c.in-Some.ensures)

pub returns-in_default : goal.returns-in_default
returns-in_default c = kept_is c.args.finding.now c.args.found.now.items (ap (position (is_same c.args.finding.now)) (sym c.deref.ensures.value) ∙ sym c.in_default.ensures)
