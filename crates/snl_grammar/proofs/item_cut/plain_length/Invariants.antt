use Rattle.std.proofs.Common.{length, ◌-◌}
use Rattle.snl_grammar.proofs.PlainItems.{IsRead}
use Rattle.snl_grammar.proofs.item_cut.plain_length.Given as goal

abbrev pub invariant-loop-is_body : goal.invariant-loop-is_body
invariant-loop-is_body l = IsRead l.rest l.end l.balance l.by_paren

abbrev pub decreases-loop-is_body : goal.decreases-loop-is_body
decreases-loop-is_body l = length l.rest - l.end
