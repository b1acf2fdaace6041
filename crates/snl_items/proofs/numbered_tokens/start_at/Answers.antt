use Rattle.std.proofs.Common.{◌≡◌, ◌-◌, suc, take, arith, sym, ap, ◌∙◌}
use Rattle.snl_cut.specs.Cut.{last_end}
use Rattle.snl_cut.specs.CutLaws.{last_taken}
use Rattle.snl_items.proofs.numbered_tokens.start_at.Goals as goal

pub returns-else-number-eq0 : goal.returns-else-number-eq0
returns-else-number-eq0 c =
    let ends = c.args.ends.now in
    let one : suc (c.args.number - 1) ≡ c.args.number = omega arith in
    sym (last_taken c.args.begin ends (c.args.number - 1) (omega arith)) ∙ ap (λ n. last_end c.args.begin (take n ends)) one
