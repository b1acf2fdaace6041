use Rattle.std.proofs.Common.{◌≡◌, ℕ, ◌+◌, ◌-◌, ◌≤◌, List, length, take, drop}
use Rattle.std.specs.List.{list_all}
use Rattle.snl_lex.specs.Alphabet.{is_plain}
use Rattle.snl_lex.specs.Numbers.{awaits_sign, number_joins}
use Rattle.snl_lex.specs.Runs.{run_by}
use Rattle.snl_lex.proofs.numbers.number_end.Given as goal

abbrev pub invariant-loop-end : goal.invariant-loop-end
invariant-loop-end l = record {
  before : List ℕ;
  counted : 1 + run_by number_joins (take 1 l.bytes) (drop 1 l.bytes) ≡ l.end + run_by number_joins before (drop l.end l.bytes);
  inside : l.end ≤ length l.bytes;
  plain : l.plain ≡ list_all is_plain before;
  awaits : l.awaits_sign ≡ awaits_sign before;
}

abbrev pub decreases-loop-end : goal.decreases-loop-end
decreases-loop-end l = length l.bytes - l.end
