use Rattle.std.proofs.Common.{◌≡◌, map, take}
use Rattle.snl_walk.specs.Tokens.{token_bytes}
use Rattle.snl_item_check.specs.Told.{used_by}
use Rattle.snl_item_check.proofs.conditions.same_uses.Given as goal

-- the uses so far say the same
abbrev pub invariant-loop-number : goal.invariant-loop-number
invariant-loop-number l =
    map (used_by (token_bytes l.own.text.now l.own.tokens.now)) (take l.number l.uses) ≡ map (used_by (token_bytes l.other.text.now l.other.tokens.now)) (take l.number l.uses_there)
