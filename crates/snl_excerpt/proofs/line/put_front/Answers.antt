use Rattle.std.proofs.Common.{arith}
use Rattle.snl_excerpt.proofs.ShownLemmas.{columns_more, shown_more}
use Rattle.snl_excerpt.proofs.line.put_front.Goals as goal

pub loop-at-preserved : goal.loop-at-preserved
loop-at-preserved c = record {
  put = shown_more _ _ _ c.args.bytes.now _ c.args.count c.loop-at.at _ _ (omega arith) (omega arith) c.rest_of.ensures c.in_ok-pen.ensures.put c.in_ok-pen.ensures.pen c.loop-at.invariant.put;
  column = columns_more _ c.args.count c.loop-at.at c.args.bytes.now _ _ _ (omega arith) (omega arith) c.rest_of.ensures c.in_ok-pen.ensures.pen c.loop-at.invariant.column;
  few = omega (arith, c.in_ok-pen.ensures.few, c.loop-at.invariant.few);
}
