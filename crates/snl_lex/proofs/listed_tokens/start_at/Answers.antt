use Rattle.std.proofs.Common.{◌≡◌, ◌-◌, suc, take, arith, sym, ap, ◌∙◌}
use Rattle.std.proofs.lemmas.List.{get_or_read}
use Rattle.snl_cut.specs.Cut.{last_end}
use Rattle.snl_lex.proofs.listed_tokens.start_at.Goals as goal
use Rattle.snl_cut.specs.CutLaws.{last_taken}

pub returns-else-number-eq0 : goal.returns-else-number-eq0
returns-else-number-eq0 c =
    let ends = c.args.list.now.ends.items in
    let one : suc (c.args.number - 1) ≡ c.args.number = omega arith in
    get_or_read ends (c.args.number - 1) _ (omega (arith, c.args.list.now.ends.ok)) c.index.ensures 0
    ∙ sym (last_taken c.args.begin ends (c.args.number - 1) (omega (arith, c.args.list.now.ends.ok)))
    ∙ ap (λ n. last_end c.args.begin (take n ends)) one
