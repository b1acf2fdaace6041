use Rattle.std.proofs.Common.{◌≡◌, ◌++◌, drop}
use Rattle.std.specs.List.{filter_map}
use Rattle.snl_check.specs.Numbered.{wake_by}
use Rattle.snl_check.specs.ItemTokens.{own_tokens}
use Rattle.snl_check.proofs.rows.wake_ups.wakes_by.Given as goal

-- what the uses so far and those of the rest mean is what all mean
abbrev pub invariant-loop-used : goal.invariant-loop-used
invariant-loop-used l =
    let meant = wake_by l.source.text.now (own_tokens l.source) l.links.outlines l.numbers l.item in
    l.wake.items ++ filter_map meant (drop l.used-index l.uses) ≡ filter_map meant l.uses
