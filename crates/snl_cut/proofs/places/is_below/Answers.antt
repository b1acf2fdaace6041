use Rattle.std.proofs.Common.{◌<◌, arith, ◌∙◌, ap, sym, inl, inr}
use Rattle.std.proofs.lemmas.Bool.{cases_lt, lt-ltb, ltb-true}
use Rattle.snl_cut.proofs.Below.{below_high, below_low}
use Rattle.snl_cut.specs.Cut.{ends_below}
use Rattle.snl_cut.specs.CutLaws.{below_inside}
use Rattle.snl_cut.proofs.places.is_below.Goals as goal

pub returns-then-number-count : goal.returns-then-number-count
returns-then-number-count g c = (
  λ is. below_high c.args.place 0 (g.E.Ends.listed c.args.ends.now) c.args.number c.requires (omega (arith, c.count.ensures, c.if-number-count.true)) (omega (arith, c.end.ensures, ltb-true _ _ is)),
  λ counted. elim (cases_lt c.end.result c.args.place) [
    | inl less ↦ lt-ltb _ _ less
    | inr more ↦ absurd (omega (arith, counted, below_low c.args.place (g.E.Ends.listed c.args.ends.now) c.args.number (omega (arith, c.count.ensures, c.if-number-count.true)) (omega (arith, c.end.ensures, more))))
  ],
)

pub returns-else-number-count : goal.returns-else-number-count
returns-else-number-count g c = (
  λ is. absurd (omega (arith, c.if-number-count.false, ltb-true _ _ is)),
  λ counted. absurd (omega (arith, c.if-number-count.false, c.count.ensures, counted, below_inside c.args.place (g.E.Ends.listed c.args.ends.now))),
)
