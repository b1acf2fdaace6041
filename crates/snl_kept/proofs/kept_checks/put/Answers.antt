use Rattle.std.proofs.Common.{arith, ◌≡◌, ◌∷◌, [], List, length, Option, refl, sym, ap, ◌∙◌}
use Rattle.std.specs.Vec.Iter.{into_iter_items}
use Rattle.std.proofs.lemmas.List.{set_past}
use Rattle.snl_item_check.specs.declared.findings.Checked.{Checked}
use Rattle.snl_kept.specs.declared.plan.NewCheck.{NewCheck}
use Rattle.snl_kept.specs.NewChecks.{put}
use Rattle.snl_kept.proofs.kept_checks.put.Goals as goal

pub loop-one-init : goal.loop-one-init
loop-one-init c = ap (put c.args.checks.now.values) c.into_iter-one-iterator.ensures.into_iter_gives.0

pub loop-one-preserved : goal.loop-one-preserved
loop-one-preserved c =
    let next = into_iter_items c.next.new.self in
    let before : put c.loop-one.checks.values (c.in-Some.one ∷ next) ≡ put c.args.checks.now.values c.args.made.items =
    ap (put c.loop-one.checks.values) (sym c.in-Some.ensures.steps.0) ∙ c.loop-one.invariant in
    ap (λ (l : List (Option Checked)). put l next) (sym (set_past c.loop-one.checks.values c.in-Some.one.item c.in-Some.one.check (omega (arith, c.if-item-len.false, c.len.ensures)))) ∙ before

none_left : (xs : List NewCheck) → length xs ≡ 0 → xs ≡ []
none_left [] h = refl
none_left (x ∷ xs) h = absurd (omega (arith, h))

pub returns : goal.returns
returns c =
    let none : length (into_iter_items c.loop-one.one-iterator) ≡ 0 = omega (arith, c.in-None.ensures.steps.0, c.loop-one.one-iterator.rest.ok) in
    ap (put c.loop-one.checks.values) (sym (none_left (into_iter_items c.loop-one.one-iterator) none)) ∙ c.loop-one.invariant
