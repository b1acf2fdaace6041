use Rattle.std.proofs.Common.{◌≡◌, map, take}
use Rattle.snl_shown.specs.References.{part_of}
use Rattle.snl_shown.specs.Sources.{IsMark}
use Rattle.snl_shown.proofs.references.parts_of.Given as goal

abbrev pub invariant-loop-reference : goal.invariant-loop-reference
invariant-loop-reference l = record {
  mark : IsMark l.source l.mark;
  parts : l.parts.items
      ≡ map (part_of l.source.encoding l.source.text.now) (take l.reference-index l.references);
}
