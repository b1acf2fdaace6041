use Rattle.std.proofs.Common.{◌≡◌, ◌++◌, length, drop, map}
use Rattle.std.specs.List.{All}
use Rattle.snl_cut.specs.Cut.{members}
use Rattle.snl_lex.specs.PieceList.{spelled}
use Rattle.snl_kept.specs.Entries.{entry_by}
use Rattle.snl_kept.specs.Parts.{EndsWithin, IsPart, item_of_part}
use Rattle.snl_kept.specs.Program.{program_item}
use Rattle.snl_kept.proofs.found.program.parts_along.Given as goal

-- what was made and what is left is all
abbrev pub invariant-loop-number : goal.invariant-loop-number
invariant-loop-number l = record {
  ends : EndsWithin l.start (drop l.number l.ends) (length l.tokens);
  entries : map (λ e. e.now) (drop l.number l.entries) ≡ map entry_by (members (spelled l.text l.tokens) l.start (drop l.number l.ends));
  parts : map (item_of_part l.tokens) l.parts.items ++ map (program_item l.text) (members l.tokens l.start (drop l.number l.ends)) ≡ map (program_item l.text) (members l.tokens 0 l.ends);
  inside : All (IsPart l.text l.tokens) l.parts.items;
}
