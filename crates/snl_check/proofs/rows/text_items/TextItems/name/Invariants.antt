use Rattle.std.proofs.Common.{◌≡◌, drop}
use Rattle.snl_check.specs.Collected.{items_in}
use Rattle.snl_check.specs.ItemSpans.{program_name}
use Rattle.snl_check.proofs.rows.text_items.TextItems.name.Given as goal

-- no item so far is a header
abbrev pub invariant-loop-item : goal.invariant-loop-item
invariant-loop-item l = program_name (drop l.item (items_in l.self)) ≡ program_name (items_in l.self)
