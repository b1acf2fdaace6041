use Rattle.std.proofs.Common.{refl, List, map}
use Rattle.std.specs.List.{flat_map}
use Rattle.snl_facts.specs.Lists.{at_end}
use Rattle.snl_grammar.specs.declared.tree.state.StateMember.{StateMember}
use Rattle.snl_check.specs.Clauses.{clause_in_member, item_clause}
use Rattle.snl_check.specs.Collected.{placed}
use Rattle.snl_check.proofs.rows.item_clauses.add_members.Goals as goal

pub returns : goal.returns
returns c =
    at_end (λ (ms : List StateMember). map (item_clause c.args.item) (flat_map clause_in_member ms)) refl c.args.members.now c.loop-member.member-index (map placed c.loop-member.clauses.items) _ c.loop-member-test.false c.loop-member.invariant
