use Rattle.std.proofs.Common.{arith}
use Rattle.snl_say.proofs.EscapeRuns.{run_last, run_more}
use Rattle.snl_say.proofs.bytes.put_by_runs.Goals as goal

pub returns-then-end-bytes : goal.returns-then-end-bytes
returns-then-end-bytes c =
    run_last c.args.bytes.now _ _ _ c.loop-out.start c.plain_end-end.result
    c.plain_end-end.ensures.end (omega arith) c.in_ok-extend_from_slice.ensures.items
    c.loop-out.invariant.1

pub loop-out-preserved : goal.loop-out-preserved
loop-out-preserved c = (
  omega arith,
  run_more c.args.bytes.now _ _ _ _ c.loop-out.start c.plain_end-end.result
      c.plain_end-end.ensures.end (omega arith) c.in_ok-extend_from_slice.ensures.items
      c.in_ok-put_byte.ensures c.loop-out.invariant.1,
)
