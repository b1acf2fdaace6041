use Rattle.std.proofs.Common.{◌≡◌, ◌++◌, drop}
use Rattle.std.specs.List.{flat_map}
use Rattle.snl_summary.specs.Summaries.Declares.{declared_by_member}
use Rattle.snl_summary.proofs.declarations.add_state.Given as goal

-- what is declared so far and by the rest is what all declare
abbrev pub invariant-loop-member : goal.invariant-loop-member
invariant-loop-member l =
    l.declared.items ++ flat_map (declared_by_member l.source.text.now l.source.tokens.now) (drop l.member-index l.members)
    ≡ l.initial.declared.items ++ flat_map (declared_by_member l.source.text.now l.source.tokens.now) l.members
