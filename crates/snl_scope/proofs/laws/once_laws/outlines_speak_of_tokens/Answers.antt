use Rattle.snl_grammar.specs.Parsing.{kinds_in}
use Rattle.snl_scope.proofs.SpokenTokens.{faulty_speaks_of_tokens, speaks_of_tokens}
use Rattle.snl_scope.proofs.laws.once_laws.outlines_speak_of_tokens.Goals as goal

pub returns-clause-tree : goal.returns-clause-tree
returns-clause-tree c = λ text tokens t some read.
    let is = c.item_read.ensures.told (kinds_in text tokens) t read in
    speaks_of_tokens text tokens some t (c.item_spelled.ensures.spelled t (kinds_in text tokens) is)

pub returns-clause-faulty : goal.returns-clause-faulty
returns-clause-faulty c = faulty_speaks_of_tokens
