use Rattle.snl_excerpt.proofs.ExcerptLemmas.{excerpt_made, marks_made}
use Rattle.snl_excerpt.proofs.excerpt.put_excerpt.Goals as goal

pub returns-clause-put : goal.returns-clause-put
returns-clause-put c = excerpt_made c.args.text.now c.args.out.now.items _ _ _ c.args.from.offset c.args.from.before c.args.len _ c.in_ok-start.ensures.column c.rest_of-bytes.ensures c.in_ok-start.ensures.put c.in_ok-stop.ensures.put

pub returns-clause-marks : goal.returns-clause-marks
returns-clause-marks c = marks_made c.args.text.now _ c.args.from.offset c.args.from.before c.args.len _ _ c.in_ok-start.ensures.column c.rest_of-bytes.ensures c.in_ok-stop.ensures.column
