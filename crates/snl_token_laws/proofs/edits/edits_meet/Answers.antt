use Rattle.snl_token_laws.proofs.Meeting.{edit_meets}
use Rattle.snl_token_laws.proofs.edits.edits_meet.Goals as goal

pub returns : goal.returns
returns g c = edit_meets g.F.Front.first_of c.one_cut.ensures.is_cut c.ends_in_order.ensures.rise c.ends_in_order.ensures.last
