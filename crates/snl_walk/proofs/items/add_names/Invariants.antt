use Rattle.std.proofs.Common.{◌≡◌, ◌++◌, false, map, drop}
use Rattle.snl_walk.specs.Tokens.{token_bytes}
use Rattle.snl_walk.specs.Statements.{declaration_at}
use Rattle.snl_walk.proofs.items.add_names.Given as goal

abbrev pub invariant-loop-token : goal.invariant-loop-token
invariant-loop-token l = l.found.items ++ map (declaration_at (token_bytes l.source.text.now l.source.tokens.now) l.names false) (drop l.token-index l.tokens) ≡ l.initial.found.items ++ map (declaration_at (token_bytes l.source.text.now l.source.tokens.now) l.names false) l.tokens
