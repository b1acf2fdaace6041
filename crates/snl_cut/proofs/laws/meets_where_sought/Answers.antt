use Rattle.snl_cut.specs.Cut.{ends_of}
use Rattle.snl_cut.proofs.Only.{cut_made}
use Rattle.snl_cut.proofs.Meets.{meet_is}
use Rattle.snl_cut.proofs.laws.meets_where_sought.Goals as goal

pub returns : goal.returns
returns g c = λ old units start b e front made back is.
    let first = g.F.Front.first_of in
    let within = g.met.F.Front.within in
    meet_is first within old units (ends_of first old) (ends_of first units) b e is.meet (cut_made first within old) (cut_made first within units) is.meets
