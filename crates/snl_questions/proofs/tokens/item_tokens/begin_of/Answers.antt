use Rattle.std.proofs.Common.{◌≡◌, suc, ◌-◌, take, ap, sym, ◌∙◌, arith}
use Rattle.snl_cut.specs.Cut.{last_end}
use Rattle.snl_cut.specs.CutLaws.{last_taken}
use Rattle.snl_questions.proofs.tokens.item_tokens.begin_of.Goals as goal

pub returns-else-number-eq0 : goal.returns-else-number-eq0
returns-else-number-eq0 c =
    let one : suc (c.args.number - 1) ≡ c.args.number = omega arith in
    sym (last_taken 0 c.args.ends.now (c.args.number - 1) (omega arith))
    ∙ ap (λ n. last_end 0 (take n c.args.ends.now)) one
