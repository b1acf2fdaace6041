use Rattle.std.proofs.Common.{List, sym, ap, ◌∙◌}
use Rattle.std.specs.List.{list_any}
use Rattle.snl_scope.specs.declared.outlines.flat.FlatClause.{FlatClause}
use Rattle.snl_scope.specs.OutlineList.{NamedOutlines, clause_by}
use Rattle.snl_scope.specs.Renamed.{is_on, some_is_on}
use Rattle.snl_scope.proofs.ClausesOn.{any_in_flat}
use Rattle.snl_scope.proofs.outlines.outline_list.OutlineList.some_is_on.Goals as goal

pub returns : goal.returns
returns c =
    let held = c.self.inside in
    let names = c.args.names.now in
    c.any_is_on.ensures
    ∙ ap (λ (cs : List FlatClause). list_any (λ x. is_on names (clause_by held.names x)) cs) c.deref.ensures.value
    ∙ sym (any_in_flat held.names (is_on names) held.heads.items held.declares.items held.clauses.items c.self.invariant.clauses)
    ∙ ap (λ (l : NamedOutlines). some_is_on names l.outlines) c.self.view_is
