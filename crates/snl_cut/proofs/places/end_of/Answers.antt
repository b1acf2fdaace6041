use Rattle.std.proofs.Common.{◌≡◌, ◌-◌, suc, take, arith, sym, ap, ◌∙◌}
use Rattle.snl_cut.specs.Cut.{last_end}
use Rattle.snl_cut.proofs.places.end_of.Goals as goal
use Rattle.snl_cut.specs.CutLaws.{last_taken}

pub returns-else-count-eq0 : goal.returns-else-count-eq0
returns-else-count-eq0 g c =
    let one : suc (c.args.count - 1) ≡ c.args.count = omega arith in
    c.end.ensures ∙ sym (last_taken 0 (g.E.Ends.listed c.args.ends.now) (c.args.count - 1) (omega arith)) ∙ ap (λ n. last_end 0 (take n (g.E.Ends.listed c.args.ends.now))) one
