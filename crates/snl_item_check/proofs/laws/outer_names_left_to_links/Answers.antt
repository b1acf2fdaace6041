use Rattle.std.proofs.Common.{Some, ap, ◌∙◌}
use Rattle.snl_walk.specs.Items.{occurrences}
use Rattle.snl_item_check.specs.View.{misses_by, outer_by}
use Rattle.snl_item_check.proofs.LeftToLinks.{left_to_links, own_tokens}
use Rattle.snl_item_check.proofs.laws.outer_names_left_to_links.Goals as goal

pub returns : goal.returns
returns c = λ bytes in_set fact target text tokens tree read.
    left_to_links bytes text tokens (outer_by fact) (misses_by in_set target) in_set tree
    (c.repeated_names_resolve.ensures bytes (outer_by fact) (misses_by in_set target) (occurrences bytes tree) (own_tokens bytes text tokens tree))
    (λ f is. c.functions_are_named_first.ensures bytes text tokens f (read ∙ ap Some is))
