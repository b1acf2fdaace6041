use Rattle.std.proofs.Common.{◌∙◌, ap}
use Rattle.std.specs.List.{filter}
use Rattle.std.proofs.lemmas.List.Elements.{All-filter, All-same}
use Rattle.snl_lex.specs.Pieces.{LiesIn, is_token}
use Rattle.snl_tests.proofs.reading.tokens_of.Goals as goal

pub returns : goal.returns
returns c =
    let lies = LiesIn c.args.text.now in
    let pieces = c.in_ok-pieces.pieces.items in
    All-same lies c.in_ok-tokens.tokens.items (filter is_token pieces) (c.in_ok-tokens.ensures ∙ ap (filter is_token) c.deref.ensures.value)
    (All-filter is_token lies pieces c.in_ok-pieces.ensures.inside)
