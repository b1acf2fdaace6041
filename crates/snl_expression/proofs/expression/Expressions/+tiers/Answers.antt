use Rattle.std.proofs.Common.{◌≡◌, ◌-◌, [], Ok, Some, ap, sym, ◌∙◌, arith}
use Rattle.std.proofs.lemmas.Result.{err_from_is_err_and}
use Rattle.snl_grammar.specs.Tokens.{ahead}
use Rattle.snl_grammar.specs.Steps.{kind_at, many}
use Rattle.snl_expression.specs.Tiers.{tier_between, tier_in}
use Rattle.snl_grammar.specs.Reading.Expressions.{assignx, type_within, operand, next_link, tiers_from}
use Rattle.snl_expression.proofs.Tiers.{all_tiers, next_tier, tiers_above, tiers_end, tiers_err, tiers_go_on}
use Rattle.snl_expression.specs.TurnLaws.{turns_begin, turn_err, turn_end, turn_more, turns_over}
use Rattle.snl_expression.proofs.expression.Expressions.+tiers.Goals as goal

pub links-loop-turn-init : goal.links-loop-turn-init
links-loop-turn-init g t c = turns_begin (next_link c.args.tier (operand (assignx c.args.self.now.depth) (type_within c.args.self.now.depth) (c.args.tier - 1))) c.new-found.result [] c.turns-turn-end.result (ahead c.args.kinds.now c.args.start) c.new-found.ensures c.turns-turn-end.ensures

pub links-returns-in_err-next : goal.links-returns-in_err-next
links-returns-in_err-next g t c =
    let p = err_from_is_err_and c.from_residual.result c.from_residual.ensures.1 in
    rw (p.1, p.2) (turn_err (next_link c.args.tier (operand (assignx c.args.self.now.depth) (type_within c.args.self.now.depth) (c.args.tier - 1))) (many (next_link c.args.tier (operand (assignx c.args.self.now.depth) (type_within c.args.self.now.depth) (c.args.tier - 1))) [] (ahead c.args.kinds.now c.args.start)) c.turns-turn-end.result c.loop-turn._turn c.loop-turn.found (ahead c.args.kinds.now c.loop-turn.at) c.args.kinds.now c.in_err-next.field-0.0 c.loop-turn-test.true c.loop-turn.invariant c.in_err-next.ensures)

pub links-returns-in-None : goal.links-returns-in-None
links-returns-in-None g t c =
    turn_end (next_link c.args.tier (operand (assignx c.args.self.now.depth) (type_within c.args.self.now.depth) (c.args.tier - 1))) (many (next_link c.args.tier (operand (assignx c.args.self.now.depth) (type_within c.args.self.now.depth) (c.args.tier - 1))) [] (ahead c.args.kinds.now c.args.start)) c.turns-turn-end.result c.loop-turn._turn c.loop-turn.found (ahead c.args.kinds.now c.loop-turn.at) (ahead c.args.kinds.now c.in_ok-next.after) c.loop-turn-test.true c.loop-turn.invariant (c.in_ok-next.ensures ∙ ap (λ o. Ok (o, ahead c.args.kinds.now c.in_ok-next.after)) c.in-None.is)

pub links-loop-turn-preserved : goal.links-loop-turn-preserved
links-loop-turn-preserved g t c =
    rw c.in_ok-found-in-Some.ensures (turn_more (next_link c.args.tier (operand (assignx c.args.self.now.depth) (type_within c.args.self.now.depth) (c.args.tier - 1))) (many (next_link c.args.tier (operand (assignx c.args.self.now.depth) (type_within c.args.self.now.depth) (c.args.tier - 1))) [] (ahead c.args.kinds.now c.args.start)) c.turns-turn-end.result c.loop-turn._turn c.loop-turn.found (ahead c.args.kinds.now c.loop-turn.at) c.in-Some.item (ahead c.args.kinds.now c.in_ok-next.after) c.loop-turn-test.true c.loop-turn.invariant (c.in_ok-next.ensures ∙ ap (λ o. Ok (o, ahead c.args.kinds.now c.in_ok-next.after)) c.in-Some.is))

pub links-returns : goal.links-returns
links-returns g t c = turns_over (next_link c.args.tier (operand (assignx c.args.self.now.depth) (type_within c.args.self.now.depth) (c.args.tier - 1))) (many (next_link c.args.tier (operand (assignx c.args.self.now.depth) (type_within c.args.self.now.depth) (c.args.tier - 1))) [] (ahead c.args.kinds.now c.args.start)) c.turns-turn-end.result c.loop-turn._turn c.loop-turn.found (ahead c.args.kinds.now c.loop-turn.at) c.loop-turn-test.false c.loop-turn.invariant

pub tiers_from-loop-next-init : goal.tiers_from-loop-next-init
tiers_from-loop-next-init g t c =
    let inner = assignx c.args.self.now.depth in
    let names = type_within c.args.self.now.depth in
    let k = ahead c.args.kinds.now c.args.at in
    let all : c.args.tier - 0 ≡ c.args.tier = omega arith in
    record {
      left = ap (λ n. tiers_above inner names 0 n c.args.first k) all ∙ sym (all_tiers inner names c.args.tier c.args.first k);
      within = omega arith;
    }

pub tiers_from-returns-in_err-links : goal.tiers_from-returns-in_err-links
tiers_from-returns-in_err-links g t c =
    let p = err_from_is_err_and c.from_residual.result c.from_residual.ensures.1 in
    rw (p.1, p.2) (tiers_err (assignx c.args.self.now.depth) (type_within c.args.self.now.depth) (tiers_from (assignx c.args.self.now.depth) (type_within c.args.self.now.depth) c.args.tier c.args.first (ahead c.args.kinds.now c.args.at)) c.loop-next.done c.args.tier c.in-Some.next c.loop-next.first (ahead c.args.kinds.now c.loop-next.at) (sym c.tier_between.ensures ∙ c.in-Some.is) c.loop-next.invariant.left c.args.kinds.now c.in_err-links.field-0.0 c.in_err-links.ensures)

pub tiers_from-loop-next-preserved : goal.tiers_from-loop-next-preserved
tiers_from-loop-next-preserved g t c =
    let next : tier_between c.loop-next.done c.args.tier (tier_in (kind_at (ahead c.args.kinds.now c.loop-next.at))) ≡ Some c.in-Some.next = sym c.tier_between.ensures ∙ c.in-Some.is in
    record {
      left = rw c.in_ok-first.ensures (tiers_go_on (assignx c.args.self.now.depth) (type_within c.args.self.now.depth) (tiers_from (assignx c.args.self.now.depth) (type_within c.args.self.now.depth) c.args.tier c.args.first (ahead c.args.kinds.now c.args.at)) c.loop-next.done c.args.tier c.in-Some.next c.loop-next.first (ahead c.args.kinds.now c.loop-next.at) next c.loop-next.invariant.left c.in_ok-links.links (ahead c.args.kinds.now c.in_ok-links.after) c.in_ok-links.ensures);
      within = (next_tier c.loop-next.done c.args.tier c.in-Some.next (tier_in (kind_at (ahead c.args.kinds.now c.loop-next.at))) next).2;
    }

pub tiers_from-returns : goal.tiers_from-returns
tiers_from-returns g t c =
    tiers_end (assignx c.args.self.now.depth) (type_within c.args.self.now.depth) (tiers_from (assignx c.args.self.now.depth) (type_within c.args.self.now.depth) c.args.tier c.args.first (ahead c.args.kinds.now c.args.at)) c.loop-next.done c.args.tier c.loop-next.first (ahead c.args.kinds.now c.loop-next.at) c.loop-next.invariant.within (sym c.tier_between.ensures ∙ c.in_default.is) c.loop-next.invariant.left
