use Rattle.std.proofs.Common.{◌∙◌}
use Rattle.snl_scope.proofs.SpokenChannels.{sync-claims}
use Rattle.snl_scope.proofs.links.Links.sync_number.Goals as goal

pub returns : goal.returns
returns c = c.first_clause.ensures ∙ sync-claims c.args.self.now.outlines c.said.result.now.claims c.said.ensures.claims c.args.variable c.args.element
