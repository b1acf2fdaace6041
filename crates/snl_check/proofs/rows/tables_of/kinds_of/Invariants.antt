use Rattle.std.proofs.Common.{◌≡◌, map, take, option_copied}
use Rattle.snl_summary.specs.Summaries.{kind_of}
use Rattle.snl_check.proofs.rows.tables_of.kinds_of.Given as goal

abbrev pub invariant-loop-item : goal.invariant-loop-item
invariant-loop-item l = l.kinds.items ≡ map kind_of (map option_copied (take l.item-index l.items))
