use Rattle.std.proofs.Common.{◌<◌, length, arith, sym, subst, take}
use Rattle.std.proofs.lemmas.List.{take_more}
use Rattle.snl_check.specs.Reach.{Enters}
use Rattle.snl_check.proofs.Searching.{enters-more}
use Rattle.snl_check.proofs.reachability.reaching.Search.enter_all.Goals as goal

pub loop-state-preserved : goal.loop-state-preserved
loop-state-preserved c =
    let states = c.args.states.now in
    let i = c.loop-state.state-index in
    let within : i < length states = omega arith in
    subst (Enters c.args.self.now c.enter.new.self) (sym (take_more states i 0 within)) (enters-more c.args.self.now c.loop-state.self c.enter.new.self (take i states) _ c.loop-state.invariant c.in_ok-enter.ensures)
