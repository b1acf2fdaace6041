-- What links hold of the clauses of a text.
use Rattle.std.specs.Prelude.{◌≡◌, List}
use Rattle.std.specs.List.{zip}
use Rattle.snl_scope.specs.declared.linking.LinkedClauses.{LinkedClauses}
use Rattle.snl_summary.specs.declared.summary.Outline.{Outline}
use Rattle.snl_scope.specs.Claims.{Claimed}
use Rattle.snl_scope.specs.Clauses.{clause_faults, clause_links, clauses_of, soundness}
use Rattle.snl_scope.specs.Resolved.{Assigns}

-- It is what the clauses of these items say.
pub record TellsClauses (said : LinkedClauses) (ss : List Outline) : Type 0 where
  pub clauses : said.clauses.items ≡ clause_links ss
  pub assigned : Assigns said.assigned.items (clauses_of ss)
  pub claims : Claimed said.claims (zip (clauses_of ss) (soundness ss))
  pub faults : said.faults.items ≡ clause_faults ss
