use Rattle.std.proofs.Common.{◌≡◌, ◌++◌, drop}
use Rattle.snl_walk.specs.Tokens.{token_bytes}
use Rattle.snl_walk.specs.Undeclared.{firsts_after, is_undeclared, undeclared}
use Rattle.snl_walk.specs.Uses.{tokens_where}
use Rattle.snl_walk.proofs.undeclared.undeclared.Given as goal

abbrev pub invariant-loop-occurrence : goal.invariant-loop-occurrence
invariant-loop-occurrence g l =
    l.firsts.items
    ++ firsts_after (token_bytes l.source.text.now l.source.tokens.now) l.names (tokens_where (λ o. is_undeclared (g.O.OtherItems.outer_of l.others) (token_bytes l.source.text.now l.source.tokens.now o.token) o) (drop l.occurrence-index l.found))
    ≡ undeclared (token_bytes l.source.text.now l.source.tokens.now) (g.O.OtherItems.outer_of l.others) l.found
