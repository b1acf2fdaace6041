use Rattle.std.proofs.Common.{◌≡◌, map, drop}
use Rattle.snl_walk.specs.Expressions.{are_subscripts, tail_of}
use Rattle.snl_walk.proofs.expressions.are_subscripts.Given as goal

-- the rest decides
abbrev pub invariant-loop-suffix : goal.invariant-loop-suffix
invariant-loop-suffix l = are_subscripts (map tail_of (drop l.suffix-index l.suffixes)) ≡ are_subscripts (map tail_of l.suffixes)
