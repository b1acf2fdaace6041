use Rattle.std.proofs.Common.{◌≤◌, ℕ, List, length, subst, sym}
use Rattle.snl_lex.specs.LineList.{line_ends}
use Rattle.snl_place.proofs.ByLines.{by_begins}
use Rattle.snl_place.proofs.LineEnds.{begin_is, begin_under}
use Rattle.snl_place.proofs.line_places.lines_begin.Goals as goal
use Rattle.snl_lex.specs.LineLaws.{below}

pub returns-clause-offset : goal.returns-clause-offset
returns-clause-offset c = λ text offset.
    let es : List ℕ = line_ends text in
    subst (λ (n : ℕ). n ≤ offset) (sym (begin_is es (below offset es))) (by_begins text offset)

pub returns-clause-inside : goal.returns-clause-inside
returns-clause-inside c = λ text line le.
    let es : List ℕ = line_ends text in
    subst (λ (n : ℕ). n ≤ length text) (sym (begin_is es line)) (begin_under text line le)
