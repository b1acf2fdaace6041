use Rattle.std.proofs.Common.{◌≡◌, ◌++◌, map, drop, false}
use Rattle.snl_walk.specs.Tokens.{token_bytes}
use Rattle.snl_walk.specs.Expressions.{names_in_init, names_in_values}
use Rattle.snl_walk.specs.Scopes.{seen}
use Rattle.snl_walk.proofs.expressions.+initialisers.Given as goal

abbrev pub invariant-add_inits-loop-value : goal.invariant-add_inits-loop-value
invariant-add_inits-loop-value l =
    l.found.items ++ map (seen (token_bytes l.source.text.now l.source.tokens.now) l.names false) (names_in_values (map names_in_init (drop l.value-index l.values)))
    ≡ l.initial.found.items ++ map (seen (token_bytes l.source.text.now l.source.tokens.now) l.names false) (names_in_values (map names_in_init l.values))
