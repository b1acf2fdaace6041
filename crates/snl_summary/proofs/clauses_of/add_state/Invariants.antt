use Rattle.std.proofs.Common.{◌≡◌, ◌++◌, drop}
use Rattle.std.specs.List.{flat_map}
use Rattle.snl_summary.specs.Summaries.Clauses.{clauses_of_member}
use Rattle.snl_summary.proofs.clauses_of.add_state.Given as goal

-- the clauses so far and those of the rest are those of all
abbrev pub invariant-loop-member : goal.invariant-loop-member
invariant-loop-member l =
    l.clauses.items ++ flat_map (clauses_of_member l.source.text.now l.source.tokens.now) (drop l.member-index l.members)
    ≡ l.initial.clauses.items ++ flat_map (clauses_of_member l.source.text.now l.source.tokens.now) l.members
