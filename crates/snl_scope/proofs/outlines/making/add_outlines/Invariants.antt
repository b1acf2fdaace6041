use Rattle.std.proofs.Common.{◌++◌, List, map, take}
use Rattle.snl_summary.specs.declared.summary.Outline.{Outline}
use Rattle.snl_scope.specs.OutlineList.{Extends, Tells}
use Rattle.snl_scope.proofs.outlines.making.add_outlines.Given as goal

-- the outlines so far are told, after whatever was told before
abbrev pub invariant-loop-summary : goal.invariant-loop-summary
invariant-loop-summary l = record {
  names : Extends l.initial.making.names l.making.names;
  told : (ss : List Outline) → Tells l.initial.making ss → Tells l.making (ss ++ map (λ s. s.now.outline) (take l.summary-index l.summaries));
}
