use Rattle.std.proofs.Common.{arith, ap, ◌∙◌, sym, add-one, get_or}
use Rattle.snl_cut.proofs.Below.{exact}
use Rattle.snl_cut.proofs.places.members_to.Goals as goal
use Rattle.snl_cut.specs.CutLaws.{last_taken}

pub returns-then-below-count : goal.returns-then-below-count
returns-then-below-count g c = λ k h.
    let there = exact c.args.place 0 (g.E.Ends.listed c.args.ends.now) k c.requires (omega arith) h in
    absurd (omega (arith, there.0, c.count_near-below.ensures.count, c.count.ensures, c.if-below-count.true))

pub returns-then-end-place : goal.returns-then-end-place
returns-then-end-place g c =
    (omega arith, rw add-one (last_taken 0 (g.E.Ends.listed c.args.ends.now) c.count_near-below.result (omega arith) ∙ sym c.end-end.ensures ∙ c.if-end-place.true))

pub returns-else-end-place : goal.returns-else-end-place
returns-else-end-place g c = λ k h.
    let there = exact c.args.place 0 (g.E.Ends.listed c.args.ends.now) k c.requires (omega arith) h in
    c.if-end-place.false (c.end-end.ensures ∙ ap (λ n. get_or (g.E.Ends.listed c.args.ends.now) n 0) c.count_near-below.ensures.count ∙ there.1)
