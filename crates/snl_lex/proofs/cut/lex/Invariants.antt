use Rattle.std.proofs.Common.{◌≡◌, ◌-◌, ◌≤◌, length}
use Rattle.snl_cut.specs.Cut.{after_ticks}
use Rattle.snl_lex.proofs.Members.{Leads}
use Rattle.snl_lex.proofs.cut.lex.Given as goal

abbrev pub invariant-loop-at : goal.invariant-loop-at
invariant-loop-at l = record {
  leads : Leads l.text 0 l.pieces.items l.at;
  inside : l.at ≤ length l.text;
  ticked : l.work ≡ after_ticks l.fn.work (length l.pieces.items);
}

abbrev pub decreases-loop-at : goal.decreases-loop-at
decreases-loop-at l = length l.text - l.at
