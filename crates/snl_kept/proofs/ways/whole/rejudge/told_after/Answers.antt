use Rattle.std.proofs.Common.{arith, ◌≡◌, ℕ, ◌-◌, ◌++◌, List, length, map, take, drop, IfOk, IfSome, Option, Bor, ap, sym, subst, ◌∙◌}
use Rattle.snl_scope.specs.Linked.{faults_of}
use Rattle.snl_scope.specs.LinkedItems.{LinkedItems}
use Rattle.snl_check.specs.KnownRows.{AreKnown}
use Rattle.snl_item_check.specs.declared.findings.Checked.{Checked}
use Rattle.snl_kept.specs.declared.plan.NewCheck.{NewCheck}
use Rattle.snl_kept.specs.Checks.{checks_of, links_in, outlines_in}
use Rattle.snl_kept.specs.NewChecks.{AreChecksMade, put}
use Rattle.snl_kept.specs.NewLinks.{HasFaults, links_now}
use Rattle.snl_kept.specs.Tables.{tables_in}
use Rattle.snl_kept.specs.Warnings.{warns_in}
use Rattle.snl_kept.proofs.MadeChecks.{count_of_checks}
use Rattle.snl_kept.proofs.ways.whole.rejudge.told_after.Goals as goal

pub overflow_sub-back : goal.overflow_sub-back
overflow_sub-back c =
    let old = c.args.editing.now.edit.now.old.now in
    omega (arith, c.len.ensures, ap length c.requires.editing.lists.checks, count_of_checks old, c.requires.editing.changes.items.order)

pub checks_in-requires-clause-order : goal.checks_in-requires-clause-order
checks_in-requires-clause-order c =
    let old = c.args.editing.now.edit.now.old.now in
    omega (arith, c.len.ensures, ap length c.requires.editing.lists.checks, count_of_checks old, c.requires.editing.changes.items.order)

pub told_in-requires-clause-links : goal.told_in-requires-clause-links
told_in-requires-clause-links c =
    let links = c.args.kept.now.links in
    c.after-links.ensures
    ∙ ap (λ (l : LinkedItems). (links_now l links).outlines) c.requires.editing.lists.links
    ∙ ap (λ (l : LinkedItems). l.outlines) c.requires.kept.links.are
    ∙ ap outlines_in (sym c.requires.text)

pub told_in-requires-clause-kinds : goal.told_in-requires-clause-kinds
told_in-requires-clause-kinds c =
    let links = c.args.kept.now.links in
    c.kinds-kinds.ensures
    ∙ ap (λ (l : LinkedItems). (links_now l links).kinds) c.requires.editing.lists.links
    ∙ ap (λ (l : LinkedItems). l.kinds) c.requires.kept.links.are
    ∙ ap (λ (t : List ℕ). (links_in t).kinds) (sym c.requires.text)

pub faults-faults-requires : goal.faults-faults-requires
faults-faults-requires c = subst (λ (l : LinkedItems). HasFaults l c.args.kept.now.links) (sym c.requires.editing.lists.links) c.requires.kept.links.faults

pub told_in-requires-clause-faults : goal.told_in-requires-clause-faults
told_in-requires-clause-faults c =
    let links = c.args.kept.now.links in
    c.faults-faults.ensures
    ∙ ap (λ (l : LinkedItems). faults_of (links_now l links)) c.requires.editing.lists.links
    ∙ ap faults_of c.requires.kept.links.are
    ∙ ap (λ (t : List ℕ). faults_of (links_in t)) (sym c.requires.text)

-- the checks that are looked at are those of the text
all_checks : (old text : List ℕ) (front back : ℕ) (values vacant checks : List (Option Checked)) (made : List NewCheck) (n : ℕ) → values ≡ checks_of old → n ≡ length values - back
    → checks ≡ put (take front values ++ (vacant ++ drop n values)) made → AreChecksMade old text front vacant back made → checks ≡ checks_of text
all_checks old text front back values vacant checks made n values_are n_is is told =
    is
    ∙ ap (λ (k : ℕ). put (take front values ++ (vacant ++ drop k values)) made) n_is
    ∙ ap (λ (v : List (Option Checked)). put (take front v ++ (vacant ++ drop (length v - back) v)) made) values_are
    ∙ sym told

pub told_in-requires-clause-checks : goal.told_in-requires-clause-checks
told_in-requires-clause-checks c =
    let old = c.args.editing.now.edit.now.old.now in
    let text = c.args.editing.now.edit.now.text.now in
    let items = c.args.editing.now.changes.now.items in
    let made = c.args.kept.now.checks.made.items in
    let vacant = c.args.kept.now.checks.vacant.items in
    let values = c.args.editing.now.lists.now.checks.values in
    let now = λ (k : Bor (Option Checked)). k.now in
    ap (map now) c.deref-3.ensures.value
    ∙ all_checks old text items.kept_front items.kept_back values vacant (map now c.in_ok-checks.checks.items) made (c.len.result - items.kept_back) c.requires.editing.lists.checks (ap (λ (n : ℕ). n - items.kept_back) c.len.ensures)
    (c.in_ok-checks.ensures
    ∙ ap (λ (v : List (Option Checked)). put (take items.kept_front values ++ (v ++ drop (c.len.result - items.kept_back) values)) c.deref-2.result.now) c.deref.ensures.value
    ∙ ap (put (take items.kept_front values ++ (vacant ++ drop (c.len.result - items.kept_back) values))) c.deref-2.ensures.value)
    c.requires.kept.checks
    ∙ ap checks_of (sym c.requires.text)

pub told_in-requires-clause-known : goal.told_in-requires-clause-known
told_in-requires-clause-known c =
    subst (λ (t : List ℕ). IfSome c.kept_rows-known.result (λ k. AreKnown k (tables_in t))) (sym c.requires.text) c.kept_rows-known.ensures

pub returns-clause-warns : goal.returns-clause-warns
returns-clause-warns c = subst (λ (t : List ℕ). IfOk c.told_in.result (λ j. j.warns ≡ warns_in t)) c.requires.text c.told_in.ensures.warns
