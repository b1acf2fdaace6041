use Rattle.std.proofs.Common.{◌<◌, ◌++◌, ℕ, List, arith, sym, ap, ◌∙◌}
use Rattle.std.specs.Prelude.{encode_utf8_all}
use Rattle.std.proofs.lemmas.List.{append-nil}
use Rattle.snl_excerpt.proofs.ShownLemmas.{pen_inside, pen_made, put_inside, put_made}
use Rattle.snl_excerpt.proofs.glyph.put_at.Goals as goal

pub returns-then-pen-gt0-clause-put : goal.returns-then-pen-gt0-clause-put
returns-then-pen-gt0-clause-put c =
    let some : 0 < c.args.pen.inside = omega arith in
    sym (ap (λ (l : List ℕ). c.args.out.now.items ++ encode_utf8_all l) (put_inside c.args.pen c.args.bytes.now some) ∙ append-nil c.args.out.now.items)

pub returns-then-pen-gt0-clause-pen : goal.returns-then-pen-gt0-clause-pen
returns-then-pen-gt0-clause-pen c =
    let some : 0 < c.args.pen.inside = omega arith in
    sym (pen_inside c.args.pen c.args.bytes.now some)

pub returns-clause-put : goal.returns-clause-put
returns-clause-put c = put_made c.args.pen c.args.bytes.now _ _ _ (omega arith) c.decode-char.ensures.char c.in_ok-column.ensures.put

pub returns-clause-pen : goal.returns-clause-pen
returns-clause-pen c = pen_made c.args.pen c.args.bytes.now _ _ _ _ (omega arith) c.decode-char.ensures.char c.decode-char.ensures.size c.tail_of.ensures c.in_ok-column.ensures.column
