use Rattle.std.proofs.Common.{refl}
use Rattle.snl_listing.proofs.Putting.{put_broken, put_on}
use Rattle.snl_listing.proofs.states.put_sets.Goals as goal

pub returns-in_err-put-clause-put : goal.returns-in_err-put-clause-put
returns-in_err-put-clause-put g c = put_broken g.met.S.Sink.goes_on c.from_residual.result _ _ _ _ _ refl c.from_residual.ensures.0 c.in_err-put.ensures

pub returns-in_err-put_numbers-clause-put : goal.returns-in_err-put_numbers-clause-put
returns-in_err-put_numbers-clause-put g c =
    let r = c.from_residual-in_err-put_numbers.result in
    put_on g.met.S.Sink.goes_on r _ _ _ _ _ _ refl c.in_ok-put.ensures (put_broken g.met.S.Sink.goes_on r _ _ _ _ _ refl c.from_residual-in_err-put_numbers.ensures.0 c.in_err-put_numbers.ensures.put)

pub returns-in_err-put_numbers-2-clause-put : goal.returns-in_err-put_numbers-2-clause-put
returns-in_err-put_numbers-2-clause-put g c =
    let r = c.from_residual-in_err-put_numbers-2.result in
    put_on g.met.S.Sink.goes_on r _ _ _ _ _ _ refl c.in_ok-put.ensures (put_on g.met.S.Sink.goes_on r _ _ _ _ _ _ refl c.in_ok-put_numbers.ensures.put (put_broken g.met.S.Sink.goes_on r _ _ _ _ _ refl c.from_residual-in_err-put_numbers-2.ensures.0 c.in_err-put_numbers-2.ensures.put))

pub returns-clause-put : goal.returns-clause-put
returns-clause-put g c =
    let r = c.put_words.result in
    put_on g.met.S.Sink.goes_on r _ _ _ _ _ _ refl c.in_ok-put.ensures (put_on g.met.S.Sink.goes_on r _ _ _ _ _ _ refl c.in_ok-put_numbers.ensures.put (put_on g.met.S.Sink.goes_on r _ _ _ _ _ _ refl c.in_ok-put_numbers-2.ensures.put c.put_words.ensures))
