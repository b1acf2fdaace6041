use Rattle.std.proofs.Common.{[], ap, ◌∙◌}
use Rattle.snl_scope.specs.Linked.{faults_of}
use Rattle.snl_scope.specs.LinkedItems.{LinkedItems}
use Rattle.snl_kept.specs.Linked.{linked_of}
use Rattle.snl_kept.proofs.Nothing.{no_checks, no_ends, no_items, no_tokens}
use Rattle.snl_kept.proofs.kept.judge_nothing.Goals as goal

pub invariant_of-cut : goal.invariant_of-cut
invariant_of-cut c = record { lines_are = c.requires; tokens_are = c.listed-tokens.ensures ∙ no_tokens; ends_are = no_ends }

pub judge-requires-clause-links : goal.judge-requires-clause-links
judge-requires-clause-links c = ap (λ (l : LinkedItems). l.outlines) (c.in_ok-links.ensures ∙ ap (linked_of []) no_items)

pub judge-requires-clause-kinds : goal.judge-requires-clause-kinds
judge-requires-clause-kinds c = c.kinds.ensures ∙ ap (λ (l : LinkedItems). l.kinds) (c.in_ok-links.ensures ∙ ap (linked_of []) no_items)

pub judge-requires-clause-faults : goal.judge-requires-clause-faults
judge-requires-clause-faults c = c.faults.ensures ∙ ap faults_of (c.in_ok-links.ensures ∙ ap (linked_of []) no_items)

pub judge-requires-clause-checks : goal.judge-requires-clause-checks
judge-requires-clause-checks c = no_checks

pub returns-clause-links : goal.returns-clause-links
returns-clause-links c = c.in_ok-links.ensures ∙ ap (linked_of []) no_items
