use Rattle.std.proofs.Common.{◌≡◌, ◌++◌, length}
use Rattle.std.specs.Prelude.{decimal}
use Rattle.snl_tables.specs.Marks.{marked}
use Rattle.snl_listing.proofs.Numbers.{IsTaken}
use Rattle.snl_listing.proofs.states.put_numbers.Given as goal

-- some numbers were taken out and put
abbrev pub invariant-loop-number : goal.invariant-loop-number
invariant-loop-number g l = record {
  taken : IsTaken (g.S.Sink.Took l.initial.sink l.sink) (λ n. l.letter ++ decimal n) (marked l.initial.numbers) (marked l.numbers);
  limit : length l.numbers ≡ length l.initial.numbers;
}

abbrev pub decreases-loop-number : goal.decreases-loop-number
decreases-loop-number g l = length (marked l.numbers)
