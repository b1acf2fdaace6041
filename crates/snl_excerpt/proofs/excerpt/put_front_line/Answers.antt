use Rattle.std.proofs.Common.{◌∙◌, zero-add}
use Rattle.snl_excerpt.proofs.ExcerptLemmas.{front_made, front_wide}
use Rattle.snl_excerpt.proofs.excerpt.put_front_line.Goals as goal

pub returns-clause-put : goal.returns-clause-put
returns-clause-put c = front_made c.args.text.now c.args.out.now.items _ _ _ c.args.from.offset c.args.from.before _ _ _ _ c.is_cut-is_cut.ensures c.front_count-count.ensures c.rest_of-bytes.ensures c.inside_of.ensures (c.in_ok-column.ensures.column ∙ zero-add _) c.in_ok-column.ensures.put c.in_ok-after.ensures.put

pub returns-clause-column : goal.returns-clause-column
returns-clause-column c = front_wide c.args.text.now _ c.args.from.offset c.args.from.before _ _ _ _ _ c.is_cut-is_cut.ensures c.front_count-count.ensures c.rest_of-bytes.ensures c.inside_of.ensures (c.in_ok-column.ensures.column ∙ zero-add _) c.in_ok-after.ensures.column
