use Rattle.std.proofs.Common.{◌≡◌, [], ◌-◌, ◌+◌, ◌*◌, ◌≤◌}
use Rattle.snl_grammar.specs.Tokens.{ahead}
use Rattle.snl_grammar.specs.Steps.{many, many_within}
use Rattle.snl_grammar.specs.Reading.Expressions.{assignx, type_within, operand, next_link, tiers_from}
use Rattle.snl_expression.proofs.Tiers.{tiers_above}
use Rattle.snl_expression.proofs.expression.Expressions.+tiers.Given as goal

abbrev pub decreases-tiers_from : goal.decreases-tiers_from
decreases-tiers_from g l = 4 * l.tier + 2

abbrev pub decreases-links : goal.decreases-links
decreases-links g l = 4 * l.tier + 1

abbrev pub decreases-next_link : goal.decreases-next_link
decreases-next_link g l = 4 * l.tier

abbrev pub decreases-operand : goal.decreases-operand
decreases-operand g l = 4 * l.tier + 3

abbrev pub invariant-links-loop-turn : goal.invariant-links-loop-turn
invariant-links-loop-turn g l = many_within (next_link l.tier (operand (assignx l.self.depth) (type_within l.self.depth) (l.tier - 1))) (l._turn-end - l._turn) l.found (ahead l.kinds l.at) ≡ many (next_link l.tier (operand (assignx l.self.depth) (type_within l.self.depth) (l.tier - 1))) [] (ahead l.kinds l.start)

-- from the operand so far on, the tiers after the last one that was taken are left
abbrev pub invariant-tiers_from-loop-next : goal.invariant-tiers_from-loop-next
invariant-tiers_from-loop-next g l = record {
  left : tiers_above (assignx l.self.depth) (type_within l.self.depth) l.done (l.fn.tier - l.done) l.first (ahead l.fn.kinds l.at) ≡ tiers_from (assignx l.self.depth) (type_within l.self.depth) l.fn.tier l.fn.first (ahead l.fn.kinds l.fn.at);
  within : l.done ≤ l.fn.tier;
}

abbrev pub decreases-tiers_from-loop-next : goal.decreases-tiers_from-loop-next
decreases-tiers_from-loop-next g l = l.fn.tier - l.done
