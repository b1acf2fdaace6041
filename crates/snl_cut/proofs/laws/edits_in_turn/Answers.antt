use Rattle.snl_cut.specs.Cut.{ends_of, joined}
use Rattle.snl_cut.proofs.OneCut.{again_is}
use Rattle.snl_cut.proofs.laws.edits_in_turn.Goals as goal

pub returns : goal.returns
returns g c = λ one two three start old_stop new_stop front made back start2 old_stop2 new_stop2 front2 made2 back2 is is2.
    again_is g.F.Front.first_of g.met.F.Front.within two three (joined (ends_of g.F.Front.first_of one) old_stop new_stop front made back)
    start2 old_stop2 new_stop2 front2 made2 back2 is2
