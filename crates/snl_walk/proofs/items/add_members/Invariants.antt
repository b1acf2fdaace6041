use Rattle.std.proofs.Common.{◌≡◌, ◌++◌, drop}
use Rattle.std.specs.List.{flat_map}
use Rattle.snl_walk.specs.Tokens.{token_bytes}
use Rattle.snl_walk.specs.Items.{found_in_member}
use Rattle.snl_walk.proofs.items.add_members.Given as goal

abbrev pub invariant-loop-member : goal.invariant-loop-member
invariant-loop-member l = record {
  names : l.names ≡ l.initial.names;
  found : l.found.items ++ flat_map (found_in_member (token_bytes l.source.text.now l.source.tokens.now) l.initial.names) (drop l.member-index l.members) ≡ l.initial.found.items ++ flat_map (found_in_member (token_bytes l.source.text.now l.source.tokens.now) l.initial.names) l.members;
}
