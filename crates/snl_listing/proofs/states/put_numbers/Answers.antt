use Rattle.std.proofs.Common.{◌++◌, ◌∙◌, ap, ℕ, List}
use Rattle.std.proofs.lemmas.List.{append-nil}
use Rattle.std.specs.Prelude.{decimal}
use Rattle.snl_listing.proofs.Numbers.{taken_more}
use Rattle.snl_listing.proofs.states.put_numbers.Goals as goal

pub loop-number-preserved : goal.loop-number-preserved
loop-number-preserved g c = record {
  taken = taken_more g.met.S.Sink.goes_on _ _ _ (λ n. c.args.letter.now ++ decimal n) _ _ _ c.in-Some.number _ c.loop-number.invariant.taken c.in-Some.ensures.taken (ap (λ (l : List ℕ). c.args.letter.now ++ l) (append-nil (decimal c.in-Some.number))) c.in_ok-put_words.ensures;
  limit = c.in-Some.ensures.limit ∙ c.loop-number.invariant.limit;
}
