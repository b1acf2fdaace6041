use Rattle.std.proofs.Common.{◌≡◌, map, drop}
use Rattle.std.specs.List.{flat_map}
use Rattle.snl_walk.specs.Tokens.{token_bytes}
use Rattle.snl_walk.specs.Declares.{assigned_in_member, assigned_in_state}
use Rattle.snl_walk.specs.Once.{once_after}
use Rattle.snl_walk.proofs.declares.assigned_in_state.Given as goal

abbrev pub invariant-loop-member : goal.invariant-loop-member
invariant-loop-member l =
    once_after l.names (map (token_bytes l.source.text.now l.source.tokens.now) (flat_map assigned_in_member (drop l.member-index l.members))) ≡ assigned_in_state (token_bytes l.source.text.now l.source.tokens.now) l.members
