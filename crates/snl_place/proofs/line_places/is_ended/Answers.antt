use Rattle.std.proofs.Common.{◌<◌, ℕ, List, arith, get_or, inl, inr, length, nat_lt}
use Rattle.std.proofs.lemmas.Bool.{cases_lt, lt-ltb, ltb-true}
use Rattle.std.proofs.lemmas.List.Sums.{count_by-le-length}
use Rattle.snl_place.proofs.Ended.{ended_counts, not_ended_counts}
use Rattle.snl_place.proofs.line_places.is_ended.Goals as goal

pub returns-then-line-ends : goal.returns-then-line-ends
returns-then-line-ends c =
    let es : List ℕ = c.args.ends.now in
    let line : ℕ = c.args.line in
    let offset : ℕ = c.args.offset in
    let there : line < length es = c.if-line-ends.true in (
      λ is. ended_counts es line offset c.requires there (ltb-true _ _ is),
      λ counted. elim (cases_lt (get_or es line 0) offset) [
        | inl less ↦ lt-ltb _ _ less
        | inr late ↦
            absurd (omega (arith, counted, not_ended_counts es line offset c.requires there late))
      ],
    )

pub returns-else-line-ends : goal.returns-else-line-ends
returns-else-line-ends c =
    let es : List ℕ = c.args.ends.now in (
      λ is. absurd (omega (arith, c.if-line-ends.false, ltb-true _ _ is)),
      λ counted. absurd (omega (
        arith,
        c.if-line-ends.false,
        counted,
        count_by-le-length (λ e. nat_lt e c.args.offset) es,
      )),
    )
