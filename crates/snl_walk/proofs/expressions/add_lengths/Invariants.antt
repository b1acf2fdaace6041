use Rattle.std.proofs.Common.{◌≡◌, ◌++◌, map, drop, false}
use Rattle.std.specs.List.{flat_map}
use Rattle.snl_walk.specs.Tokens.{token_bytes}
use Rattle.snl_walk.specs.Expressions.{names_if}
use Rattle.snl_walk.specs.Scopes.{seen}
use Rattle.snl_walk.proofs.expressions.add_lengths.Given as goal

abbrev pub invariant-loop-length : goal.invariant-loop-length
invariant-loop-length l =
    l.found.items ++ map (seen (token_bytes l.source.text.now l.source.tokens.now) l.names false) (flat_map names_if (drop l.length-index l.lengths))
    ≡ l.initial.found.items ++ map (seen (token_bytes l.source.text.now l.source.tokens.now) l.names false) (flat_map names_if l.lengths)
