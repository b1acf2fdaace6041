use Rattle.std.proofs.Common.{◌∙◌}
use Rattle.snl_scope.specs.OutlineList.{clause_by}
use Rattle.snl_scope.proofs.Resolving.{flag_resolved}
use Rattle.snl_scope.proofs.clauses.resolved.Place.resolve_clause.Goals as goal

pub returns : goal.returns
returns c = λ ss symbols f p.
    let names = c.args.self.outlines.now.names in
    let variable = c.resolve.ensures ss symbols f p in
    let flag = c.resolve_flag.ensures ss symbols f p ∙ flag_resolved ss names c.args.self.item c.args.clause.flag in
    λ j. record { item = c.args.self.item; clause = clause_by names c.args.clause; variable = variable j; flag = flag j }
