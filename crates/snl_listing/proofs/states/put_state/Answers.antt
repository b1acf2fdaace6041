use Rattle.std.proofs.Common.{refl, ap, sym, List, ℕ, ◌++◌}
use Rattle.snl_listing.specs.Listing.{state_line, state_lines}
use Rattle.snl_listing.proofs.Putting.{put_broken, put_on}
use Rattle.snl_listing.proofs.Marks.{unless_is}
use Rattle.snl_listing.proofs.states.put_state.Goals as goal

pub returns-in_err-put_state_line-clause-put : goal.returns-in_err-put_state_line-clause-put
returns-in_err-put_state_line-clause-put g c = put_broken g.met.S.Sink.goes_on c.from_residual.result _ _ _ _ _ refl c.from_residual.ensures.0 c.in_err-put_state_line.ensures

pub returns-in_default-clause-put : goal.returns-in_default-clause-put
returns-in_default-clause-put g c =
    let lines : List ℕ = state_lines c.args.text.now c.args.tables.now c.args.state.now in
    put_on g.met.S.Sink.goes_on c.put_details.result _ _ _ _ _ _ (ap (λ (l : List ℕ). state_line c.args.text.now c.args.state.now ++ l) (sym (unless_is c.args.state.now.mark lines c.in_default.not-Faulty))) c.in_ok-put_state_line.ensures c.put_details.ensures.put
