use Rattle.std.proofs.Common.{◌≡◌, ◌++◌, drop}
use Rattle.std.specs.List.{flat_map}
use Rattle.snl_check.specs.States.{destinations_in_member}
use Rattle.snl_check.specs.ItemTokens.{own_tokens}
use Rattle.snl_check.proofs.rows.body.destinations.Given as goal

-- those of the members so far and those of the rest are all
abbrev pub invariant-loop-member : goal.invariant-loop-member
invariant-loop-member l =
    let led = destinations_in_member l.source.text.now (own_tokens l.source) l.links.outlines l.item in
    l.destinations.items ++ flat_map led (drop l.member-index l.members) ≡ flat_map led l.members
