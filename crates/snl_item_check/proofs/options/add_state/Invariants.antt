use Rattle.std.proofs.Common.{◌≡◌, ◌++◌, drop}
use Rattle.std.specs.List.{flat_map}
use Rattle.snl_walk.specs.Tokens.{token_bytes}
use Rattle.snl_item_check.specs.Options.{unknown_in_member}
use Rattle.snl_item_check.proofs.options.add_state.Given as goal

-- those found so far and those of the rest are those of all
abbrev pub invariant-loop-member : goal.invariant-loop-member
invariant-loop-member l =
    l.faults.items ++ flat_map (unknown_in_member (token_bytes l.source.text.now l.source.tokens.now)) (drop l.member-index l.members)
    ≡ l.initial.faults.items ++ flat_map (unknown_in_member (token_bytes l.source.text.now l.source.tokens.now)) l.members
