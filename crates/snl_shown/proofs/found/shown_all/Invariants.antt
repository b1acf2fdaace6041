use Rattle.std.proofs.Common.{◌≡◌, map, take}
use Rattle.snl_say.specs.Publish.{found_of}
use Rattle.snl_shown.specs.Found.{found_at}
use Rattle.snl_shown.specs.Sources.{IsMark}
use Rattle.snl_shown.proofs.found.shown_all.Given as goal

abbrev pub invariant-loop-diagnostic : goal.invariant-loop-diagnostic
invariant-loop-diagnostic l = record {
  mark : IsMark l.source l.mark;
  shown : map found_of l.shown.items
      ≡ map (found_at l.source.encoding l.source.text.now) (take l.diagnostic-index l.diagnostics);
}
