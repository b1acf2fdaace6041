use Rattle.std.proofs.Common.{arith, ◌≡◌, ℕ, ◌-◌, ◌++◌, List, length, take, drop, Option, ap, ap₂, sym, subst, ◌∙◌}
use Rattle.snl_scope.specs.LinkedItems.{LinkedItems}
use Rattle.snl_item_check.specs.declared.findings.Checked.{Checked}
use Rattle.snl_kept.specs.declared.plan.NewCheck.{NewCheck}
use Rattle.snl_kept.specs.declared.plan.NewChecks.{NewChecks}
use Rattle.snl_kept.specs.declared.plan.NewLinks.{NewLinks}
use Rattle.snl_kept.specs.Checks.{checks_of, links_in}
use Rattle.snl_kept.specs.Entries.{entries_of}
use Rattle.snl_kept.specs.NewChecks.{put}
use Rattle.snl_kept.specs.NewLinks.{AreLinks, HasFaults, links_now}
use Rattle.snl_kept.proofs.MadeChecks.{count_of_checks}
use Rattle.snl_kept.proofs.Members.{entries_count}
use Rattle.snl_kept.proofs.lists.Lists.put_items.Goals as goal

pub overflow_sub-back : goal.overflow_sub-back
overflow_sub-back c =
    let old = c.args.edit.now.old.now in
    omega (arith, c.len.ensures, ap length c.requires.items.entries, entries_count old, c.requires.order)

pub replace-requires-clause-range : goal.replace-requires-clause-range
replace-requires-clause-range c =
    let old = c.args.edit.now.old.now in
    omega (arith, c.len.ensures, ap length c.requires.items.entries, entries_count old, c.requires.order)

pub replace-requires-2-clause-range : goal.replace-requires-2-clause-range
replace-requires-2-clause-range c =
    let old = c.args.edit.now.old.now in
    omega (arith, c.len.ensures, ap length c.requires.items.entries, entries_count old, c.requires.order)

pub replace-requires-2-clause-within : goal.replace-requires-2-clause-within
replace-requires-2-clause-within c =
    let old = c.args.edit.now.old.now in
    omega (arith, c.len.ensures, ap length c.requires.items.entries, entries_count old, ap length c.requires.items.checks, count_of_checks old)

-- a part of a list is replaced, where what is after it is counted by another list of the same
-- length
replaced : {X : Type 0} (values olds made : List X) (front back n : ℕ) → values ≡ olds → n ≡ length olds → take front values ++ (made ++ drop (n - back) values) ≡ take front olds ++ (made ++ drop (length olds - back) olds)
replaced {X} values olds made front back n is n_is =
    ap (λ (l : List X). take front l ++ (made ++ drop (n - back) l)) is ∙ ap (λ (k : ℕ). take front olds ++ (made ++ drop (k - back) olds)) n_is

-- the links after the edit are those of the new text
links_renewed : (old text : List ℕ) (new : NewLinks) (links : LinkedItems) → links ≡ links_in old → AreLinks old text new → links_now links new ≡ links_in text
links_renewed old text new links are made = ap (λ (l : LinkedItems). links_now l new) are ∙ made.are

pub put_in-requires : goal.put_in-requires
put_in-requires c =
    subst (λ (n : NewLinks). HasFaults c.args.self.now.links n) (sym c.parts-links.ensures.links)
    (subst (λ (l : LinkedItems). HasFaults l c.args.plan.kept.links) (sym c.requires.items.links) c.requires.plan.kept.links.faults)

pub returns-clause-items : goal.returns-clause-items
returns-clause-items c =
    let old = c.args.edit.now.old.now in
    let items = c.args.items.now in
    let plan = c.args.plan in
    let was = c.args.self.now in
    let many : c.len.result ≡ length (entries_of old) = c.len.ensures ∙ ap length c.requires.items.entries in
    let same : c.len.result ≡ length (checks_of old) = omega (arith, many, entries_count old, count_of_checks old) in
    record {
      entries = c.replace.ensures
          ∙ replaced was.entries.values (entries_of old) plan.made.items items.kept_front items.kept_back c.len.result c.requires.items.entries many
          ∙ sym c.requires.plan.entries;
      links = c.put_in.ensures ∙ ap (links_now was.links) c.parts-links.ensures.links ∙ links_renewed old c.args.edit.now.text.now plan.kept.links was.links c.requires.items.links c.requires.plan.kept.links;
      checks = c.put.ensures
          ∙ ap₂ (λ (l : List (Option Checked)) (m : List NewCheck). put l m)
          (c.replace-2.ensures ∙ ap (λ (v : List (Option Checked)). take items.kept_front was.checks.values ++ (v ++ drop (c.len.result - items.kept_back) was.checks.values)) (ap (λ (k : NewChecks). k.vacant.items) c.parts-links.ensures.checks) ∙ replaced was.checks.values (checks_of old) plan.kept.checks.vacant.items items.kept_front items.kept_back c.len.result c.requires.items.checks same)
          (ap (λ (k : NewChecks). k.made.items) c.parts-links.ensures.checks)
          ∙ sym c.requires.plan.kept.checks;
      warns = c.requires.plan.warns;
    }
