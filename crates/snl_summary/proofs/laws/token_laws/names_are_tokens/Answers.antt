use Rattle.snl_grammar.specs.Parsing.{kinds_in}
use Rattle.snl_walk.specs.Tokens.{token_bytes}
use Rattle.snl_summary.proofs.NamedTokens.{names_tokens}
use Rattle.snl_summary.proofs.laws.token_laws.names_are_tokens.Goals as goal

pub returns : goal.returns
returns c = λ text tokens t read.
    let is = c.item_read.ensures.told (kinds_in text tokens) t read in
    names_tokens text tokens t (c.item_spelled.ensures.spelled t (kinds_in text tokens) is) (c.tokens_rise.ensures.own (token_bytes text tokens) text tokens t read)
