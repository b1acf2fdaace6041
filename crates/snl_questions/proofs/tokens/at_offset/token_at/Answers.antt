use Rattle.std.proofs.Common.{◌≡◌, length, arith, subst, sym, ◌∙◌}
use Rattle.std.specs.List.Sorted.{IsNonDecreasing}
use Rattle.snl_questions.specs.Tokens.{IsCount}
use Rattle.snl_questions.proofs.Lookup.{are_of, found, rising}
use Rattle.snl_questions.proofs.tokens.at_offset.token_at.Goals as goal

pub returns : goal.returns
returns c = λ text e k.
    let ends = c.args.pieces.now.ends in
    let kinds = c.args.pieces.now.kinds in
    let same : length ends.items ≡ length kinds.items = omega (arith, ends.ok, kinds.ok, c.requires) in
    let lists = are_of text ends.items kinds.items (c.pieces_as_listed.ensures text)
    (c.text_in_pieces.ensures.inside text) same e k in
    let slice = c.deref.ensures.value in
    let rise = subst IsNonDecreasing (sym slice) (rising 0 ends.items lists.rise) in
    let count = subst (λ es. IsCount c.args.offset es c.count_until-number.result) slice
    (c.count_until-number.ensures rise) in
    c.token_numbered.ensures ∙ found text ends.items kinds.items c.args.offset _ lists count
