use Rattle.std.proofs.Common.{length, ◌-◌, ◌≡◌, ◌<◌, ◌≤◌, ℕ, true}
use Rattle.snl_grammar.specs.Items.{is_text, some_is}
use Rattle.std.specs.List.{slice_get}
use Rattle.snl_grammar.proofs.item_cut.texts_end.Given as goal

abbrev pub invariant-loop-end : goal.invariant-loop-end
invariant-loop-end l = record {
  low : l.start ≤ l.end;
  high : l.end ≤ length l.rest;
  texts : (k : ℕ) → l.start ≤ k → k < l.end → some_is is_text (slice_get l.rest k) ≡ true;
}

abbrev pub decreases-loop-end : goal.decreases-loop-end
decreases-loop-end l = length l.rest - l.end
