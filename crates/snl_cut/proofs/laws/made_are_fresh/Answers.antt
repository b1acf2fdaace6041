use Rattle.std.proofs.Common.{ℕ, List, sym, ap₂, ◌∙◌}
use Rattle.snl_cut.specs.Cut.{ends_of, fresh}
use Rattle.snl_cut.proofs.Only.{cut_made}
use Rattle.snl_cut.proofs.OneCut.{again_is}
use Rattle.snl_cut.proofs.Meets.{meet_is}
use Rattle.snl_cut.proofs.laws.made_are_fresh.Goals as goal

pub returns : goal.returns
returns g c = λ old units start b e front made back is.
    let first = g.F.Front.first_of in
    let within = g.met.F.Front.within in
    let meets = meet_is first within old units (ends_of first old) (ends_of first units) b e is.meet (cut_made first within old) (cut_made first within units) is.meets in
    is.just_fresh ∙ ap₂ (λ (n : ℕ) (ends : List ℕ). fresh start n 0 ends) (sym meets) (again_is first within old units (ends_of first old) start b e front made back is)
