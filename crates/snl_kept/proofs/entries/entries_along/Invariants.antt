use Rattle.std.proofs.Common.{◌≡◌, ◌++◌, length, drop, map}
use Rattle.snl_cut.specs.Cut.{after_ticks, members}
use Rattle.snl_lex.specs.PieceList.{spelled}
use Rattle.snl_kept.specs.Entries.{entry_by}
use Rattle.snl_kept.specs.Parts.{EndsWithin}
use Rattle.snl_kept.proofs.entries.entries_along.Given as goal

-- what was made and what is left is all
abbrev pub invariant-loop-end : goal.invariant-loop-end
invariant-loop-end l = record {
  common : l.common ≡ l.text;
  ends : EndsWithin l.start (drop l.end-index l.ends) (length l.tokens);
  entries : l.entries.items ++ map entry_by (members (spelled l.text l.tokens) l.start (drop l.end-index l.ends)) ≡ map entry_by (members (spelled l.text l.tokens) l.from l.ends);
  ticks : l.work ≡ after_ticks l.initial.work l.end-index;
}
