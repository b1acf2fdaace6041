use Rattle.std.proofs.Common.{◌≡◌, ℕ, List, length, arith}
use Rattle.snl_cut.specs.Cut.{Rises, ends_of, last_end}
use Rattle.snl_cut.proofs.Only.{cut_made}
use Rattle.snl_cut.proofs.Agreeing.{walks_last, walks_rise}
use Rattle.snl_cut.proofs.InOrder.{rises_few, rises_under}
use Rattle.snl_cut.proofs.laws.ends_in_order.Goals as goal

pub returns-clause-rise : goal.returns-clause-rise
returns-clause-rise g c = λ units.
    let first = g.F.Front.first_of in
    walks_rise first g.met.F.Front.within units 0 (ends_of first units) (length units) (cut_made first g.met.F.Front.within units)

pub returns-clause-last : goal.returns-clause-last
returns-clause-last g c = λ units.
    let first = g.F.Front.first_of in
    walks_last first units 0 (ends_of first units) (length units) (cut_made first g.met.F.Front.within units)

pub returns-clause-within : goal.returns-clause-within
returns-clause-within g c = λ units i lt.
    let first = g.F.Front.first_of in
    let ends : List ℕ = ends_of first units in
    let cut = cut_made first g.met.F.Front.within units in
    let rise : Rises 0 ends = walks_rise first g.met.F.Front.within units 0 ends (length units) cut in
    let last : last_end 0 ends ≡ length units = walks_last first units 0 ends (length units) cut in
    omega (arith, last, rises_under 0 ends i rise lt)

pub returns-clause-few : goal.returns-clause-few
returns-clause-few g c = λ units.
    let first = g.F.Front.first_of in
    let ends : List ℕ = ends_of first units in
    let cut = cut_made first g.met.F.Front.within units in
    let rise : Rises 0 ends = walks_rise first g.met.F.Front.within units 0 ends (length units) cut in
    let last : last_end 0 ends ≡ length units = walks_last first units 0 ends (length units) cut in
    omega (arith, last, rises_few 0 ends rise)
