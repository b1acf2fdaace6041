use Rattle.std.proofs.Common.{length, sym, ◌∙◌, arith}
use Rattle.snl_questions.proofs.Within.{last_before}
use Rattle.snl_questions.proofs.document_symbols.linked_item.LinkedItem.last_within.Goals as goal

pub returns-then-not-encloses : goal.returns-then-not-encloses
returns-then-not-encloses c =
    let linked = c.args.self.now in
    last_before linked.links.now.outlines linked.item c.loop-next.next
    (omega (arith, c.loop-next.auto.next))
    (omega (arith, c.loop-next-test.true, linked.as_many))
    c.loop-next.invariant
    (λ inside. sym c.encloses.ensures ∙ c.if-not-encloses.true)

pub returns : goal.returns
returns c =
    let linked = c.args.self.now in
    let count = length linked.items.ends.now in
    last_before linked.links.now.outlines linked.item count linked.inside
    (omega (arith, linked.as_many))
    (λ j low high. c.loop-next.invariant j low (omega (arith, high, c.loop-next-test.false)))
    (λ inside. absurd (omega (arith, inside, linked.as_many)))
