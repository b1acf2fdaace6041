use Rattle.std.specs.List.{AllByRecursion as Each}
use Rattle.snl_views.specs.SameMeanings.{IsPaired, Unmarks}
use Rattle.snl_views.proofs.same_views.unmark_changed.Given as goal

-- the keys so far are of sets that aren't marked, or their names mean what they meant
abbrev pub invariant-loop-key : goal.invariant-loop-key
invariant-loop-key l = record {
  fewer : Unmarks l.fn.marks.items l.marks.items;
  same : Each (λ k. IsPaired l.both l.moved l.side l.marks.items k.now) l.yielded;
}
