use Rattle.std.proofs.Common.{◌≡◌, ◌++◌, drop, length, map}
use Rattle.std.specs.List.{enumerate_from, flat_map}
use Rattle.snl_cut.specs.Cut.{after_ticks}
use Rattle.snl_kept.specs.Parts.{spelled_part}
use Rattle.snl_kept.specs.NewChecks.{made_for}
use Rattle.snl_kept.proofs.ways.whole.recheck.recheck.Given as goal

abbrev pub invariant-loop-item : goal.invariant-loop-item
invariant-loop-item l =
    let items = map (spelled_part l.text l.tokens) l.parts in
    let made_here = made_for l.both.before.now.outlines l.both.after.now.outlines l.both.kept in
    record {
      made : l.made.items ++ flat_map made_here (enumerate_from l.item (drop l.item items)) ≡ flat_map made_here (enumerate_from 0 items);
      ticks : l.work ≡ after_ticks l.initial.work (length l.made.items);
    }
