use Rattle.std.proofs.Common.{ap, is_some, ◌∙◌}
use Rattle.snl_scope.proofs.SpokenChannels.{monitored-claims}
use Rattle.snl_scope.proofs.links.Links.is_monitored.Goals as goal

pub returns : goal.returns
returns c =
    c.is_some.ensures ∙ ap is_some c.first_clause.ensures
    ∙ monitored-claims c.args.self.now.outlines c.said.result.now.claims c.said.ensures.claims c.args.variable c.args.element
