use Rattle.snl_token_laws.proofs.Recuts.{edit_recut}
use Rattle.snl_token_laws.proofs.edits.edits_have_recuts.Goals as goal

pub returns : goal.returns
returns g c = λ old units start b e edit. edit_recut g.F.Front.first_of g.met.F.Front.within g.met.F.Front.local c.one_cut.ensures.is_cut c.ends_in_order.ensures.rise old units start b e edit (c.edits_meet.ensures old units start b e edit)
