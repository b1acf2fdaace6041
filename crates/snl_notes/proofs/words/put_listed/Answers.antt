use Rattle.std.proofs.Common.{length}
use Rattle.std.specs.Prelude.{string_bytes}
use Rattle.snl_notes.proofs.Listed.{one_more}
use Rattle.snl_notes.proofs.words.put_listed.Goals as goal

pub loop-index-preserved : goal.loop-index-preserved
loop-index-preserved c =
    one_more (λ p. p.now) c.args.phrases.now c.loop-index.index (length c.args.phrases.now) _ (string_bytes c.args.out.now) (string_bytes c.loop-index.out) _
    c.loop-index-test.true c.in_ok-put_phrase.ensures c.loop-index.invariant
