use Rattle.snl_listing.specs.Parts.{word_text}
use Rattle.snl_listing.proofs.Putting.{put_broken_on}
use Rattle.snl_listing.proofs.Rows.{rows_all}
use Rattle.snl_listing.proofs.words.put_words.Goals as goal

pub returns-in_err-put_word : goal.returns-in_err-put_word
returns-in_err-put_word g c = put_broken_on g.met.S.Sink.goes_on c.from_residual.result _ _ _ _ _ _ _ (rows_all word_text c.args.words.now c.loop-word.word-index _ c.loop-word-test.true) c.from_residual.ensures.0 c.loop-word.invariant c.in_err-put_word.ensures
