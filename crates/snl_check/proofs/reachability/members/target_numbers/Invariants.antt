use Rattle.std.proofs.Common.{◌≡◌, ◌++◌, drop, map}
use Rattle.std.specs.List.{filter_map}
use Rattle.snl_summary.specs.Summaries.Tokens.{name_ref_at}
use Rattle.snl_walk.specs.declared.used.TargetUse.{TargetUse}
use Rattle.snl_check.specs.Members.{target_number}
use Rattle.snl_check.specs.ItemTokens.{own_tokens}
use Rattle.snl_check.proofs.reachability.members.target_numbers.Given as goal

-- the numbers of the targets so far, and those of the rest, are those of all
abbrev pub invariant-loop-target : goal.invariant-loop-target
invariant-loop-target l =
    let numbers = filter_map (target_number l.state_source.row_source.links.now.outlines l.states l.state) in
    let name_ref = λ (u : TargetUse). name_ref_at l.source.text.now (own_tokens l.source) u.token in
    l.numbers.items ++ numbers (map name_ref (drop l.target-index l.targets)) ≡ numbers (map name_ref l.targets)
