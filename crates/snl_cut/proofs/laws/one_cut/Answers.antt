use Rattle.snl_cut.proofs.Only.{cut_made}
use Rattle.snl_cut.proofs.OneCut.{cut_is, row_is, each_is}
use Rattle.snl_cut.proofs.laws.one_cut.Goals as goal

pub returns-clause-is_cut : goal.returns-clause-is_cut
returns-clause-is_cut g c = cut_made g.F.Front.first_of g.met.F.Front.within

pub returns-clause-only : goal.returns-clause-only
returns-clause-only g c = cut_is g.F.Front.first_of g.met.F.Front.within

pub returns-clause-joins : goal.returns-clause-joins
returns-clause-joins g c = row_is g.F.Front.first_of g.met.F.Front.within

pub returns-clause-by_front : goal.returns-clause-by_front
returns-clause-by_front g c = each_is g.F.Front.first_of g.met.F.Front.within
