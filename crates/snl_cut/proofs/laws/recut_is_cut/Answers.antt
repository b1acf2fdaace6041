use Rattle.snl_cut.specs.Cut.{ends_of}
use Rattle.snl_cut.proofs.OneCut.{again_is}
use Rattle.snl_cut.proofs.laws.recut_is_cut.Goals as goal

pub returns : goal.returns
returns g c = λ old units start old_stop new_stop front made back is.
    again_is g.F.Front.first_of g.met.F.Front.within old units (ends_of g.F.Front.first_of old) start old_stop new_stop front made back is
