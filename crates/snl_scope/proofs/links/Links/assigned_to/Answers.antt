use Rattle.std.proofs.Common.{ap, ◌∙◌}
use Rattle.std.specs.Option.{unwrap_or}
use Rattle.snl_scope.specs.declared.facts.Assigned.TheVariants.{Unassigned}
use Rattle.snl_scope.specs.ByNumber.{at_number}
use Rattle.snl_scope.specs.Clauses.{clauses_of}
use Rattle.snl_scope.proofs.Assigning.{assigned-first}
use Rattle.snl_scope.proofs.links.Links.assigned_to.Goals as goal

pub returns : goal.returns
returns c =
    let ss = c.args.self.now.outlines in
    let number = c.args.number in
    c.unwrap_or.ensures
    ∙ ap (λ o. unwrap_or o Unassigned) (c.at_number.ensures ∙ ap (λ l. at_number l number) c.deref.ensures.value ∙ c.said.ensures.assigned.each number)
    ∙ assigned-first (clauses_of ss) number
