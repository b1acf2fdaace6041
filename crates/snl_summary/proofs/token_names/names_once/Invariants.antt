use Rattle.std.proofs.Common.{◌≡◌, map, drop}
use Rattle.snl_walk.specs.Once.{once, once_after}
use Rattle.snl_walk.specs.Tokens.{token_bytes}
use Rattle.snl_summary.proofs.token_names.names_once.Given as goal

-- the names are those found, and with those of the rest they are those of all
abbrev pub invariant-loop-number : goal.invariant-loop-number
invariant-loop-number l = record {
  same : l.names.items ≡ l.found;
  all : once_after l.found (map (token_bytes l.source.text.now l.source.tokens.now) (drop l.number-index l.numbers))
      ≡ once (map (token_bytes l.source.text.now l.source.tokens.now) l.numbers);
}
