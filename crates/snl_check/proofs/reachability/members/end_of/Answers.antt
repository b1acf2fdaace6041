use Rattle.std.proofs.Common.{◌≡◌, true, inl, inr, sym, subst, ◌∙◌, arith}
use Rattle.std.proofs.lemmas.Bool.{cases_eq}
use Rattle.snl_scope.specs.Places.{stands_in}
use Rattle.snl_check.specs.SetsLaws.{stand_within}
use Rattle.snl_check.proofs.reachability.members.end_of.Goals as goal

pub loop-item-preserved : goal.loop-item-preserved
loop-item-preserved c =
    let i = c.loop-item.item in
    λ j l m. elim (cases_eq j i) [
      | inl e ↦ subst (λ n. stands_in c.args.links.now.outlines c.args.set n ≡ true) (sym e) (sym c.stands_in.ensures ∙ c.if-not-stands_in.false)
      | inr ne ↦ c.loop-item.invariant j l (omega (arith, m, ne))
    ]

pub returns-then-not-stands_in-clause-items : goal.returns-then-not-stands_in-clause-items
returns-then-not-stands_in-clause-items c =
    λ j l. stand_within (record { opened = c.sets_open_in_turn.ensures.opened; placed = c.sets_open_in_turn.ensures.placed; within = c.sets_open_in_turn.ensures.within }) c.args.links.now.outlines c.args.set c.loop-item.item (omega (arith, c.loop-item.auto.item)) c.loop-item.invariant (inr (sym c.stands_in.ensures ∙ c.if-not-stands_in.true)) j (omega (arith, l, c.requires.count))

pub returns-clause-items : goal.returns-clause-items
returns-clause-items c =
    let i = c.loop-item.item in
    λ j l. stand_within (record { opened = c.sets_open_in_turn.ensures.opened; placed = c.sets_open_in_turn.ensures.placed; within = c.sets_open_in_turn.ensures.within }) c.args.links.now.outlines c.args.set c.args.count (omega (arith, c.requires.set)) (λ k m n. c.loop-item.invariant k m (omega (arith, n, c.loop-item-test.false))) (inl c.requires.count) j (omega (arith, l, c.requires.count))
