use Rattle.std.proofs.Common.{[], ap, ◌∙◌}
use Rattle.snl_scope.proofs.outlines.outline_list.OutlineList.of.Goals as goal

pub finished-requires : goal.finished-requires
finished-requires c = (c.in_ok-add_outlines.ensures.told [] c.in_ok-making.ensures.told).flat

pub returns : goal.returns
returns c = ap (λ v. v.outlines) c.finished.ensures ∙ (c.in_ok-add_outlines.ensures.told [] c.in_ok-making.ensures.told).outlines
