use Rattle.snl_grammar.specs.Parsing.{kinds_in}
use Rattle.snl_summary.specs.MentionedLaws.{rises_in}
use Rattle.snl_summary.proofs.laws.token_laws.tokens_declared_once.Goals as goal

pub returns-clause-tree : goal.returns-clause-tree
returns-clause-tree c = λ text tokens t read.
    let is = c.item_read.ensures.told (kinds_in text tokens) t read in
    rises_in text tokens t (kinds_in text tokens) (c.item_spelled.ensures.spelled t (kinds_in text tokens) is)
