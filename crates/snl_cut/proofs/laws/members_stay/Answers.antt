use Rattle.std.proofs.Common.{sym, ap, ◌∙◌}
use Rattle.snl_cut.specs.Cut.{ends_of, members}
use Rattle.snl_cut.proofs.Only.{cut_made}
use Rattle.snl_cut.proofs.OneCut.{again_is}
use Rattle.snl_cut.proofs.KeptMembers.{kept_members}
use Rattle.snl_cut.proofs.laws.members_stay.Goals as goal

pub returns : goal.returns
returns g c = λ old units start b e front made back beside beside_new edit is.
    let first = g.F.Front.first_of in
    let within = g.met.F.Front.within in
    ap (members beside_new 0) (sym (again_is first within old units (ends_of first old) start b e front made back is))
    ∙ kept_members first within old units (ends_of first old) beside beside_new start b e front made back edit (cut_made first within old) is
