use Rattle.snl_excerpt.proofs.ExcerptLemmas.{back_made, stop_made}
use Rattle.snl_excerpt.proofs.excerpt.put_back_line.Goals as goal

pub returns-clause-put : goal.returns-clause-put
returns-clause-put c = back_made c.args.bytes.now c.args.out.now.items _ _ _ _ c.args.column c.args.len _ _ _ _ c.after_count-count.ensures.value c.min-marked.ensures c.in_ok-stop.ensures.put c.in_ok-stop.ensures.column c.rest_of-more.ensures c.in_ok-end.ensures.put c.goes_on.ensures c.in_ok-put_dots.ensures.put

pub returns-clause-column : goal.returns-clause-column
returns-clause-column c = stop_made c.args.bytes.now c.args.column c.args.len _ _ _ c.after_count-count.ensures.value c.min-marked.ensures c.in_ok-stop.ensures.column
