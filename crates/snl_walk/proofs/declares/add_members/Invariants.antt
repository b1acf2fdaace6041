use Rattle.std.proofs.Common.{◌≡◌, ◌++◌, drop}
use Rattle.std.specs.List.{flat_map}
use Rattle.snl_walk.specs.Tokens.{token_bytes}
use Rattle.snl_walk.specs.Declares.{declared_by_member}
use Rattle.snl_walk.proofs.declares.add_members.Given as goal

abbrev pub invariant-loop-member : goal.invariant-loop-member
invariant-loop-member l =
    l.declared.items ++ flat_map (declared_by_member (token_bytes l.source.text.now l.source.tokens.now) l.assigned) (drop l.member-index l.members)
    ≡ l.initial.declared.items ++ flat_map (declared_by_member (token_bytes l.source.text.now l.source.tokens.now) l.assigned) l.members
