use Rattle.std.proofs.Common.{◌≡◌, ◌==◌, ◌≤◌, count_by, take}
use Rattle.snl_lex.proofs.lines.lines_between.Given as goal

abbrev pub invariant-loop-byte : goal.invariant-loop-byte
invariant-loop-byte l = record { counted : l.count ≡ count_by (λ b. b == 10) (take l.byte-index l.byte-items); small : l.count ≤ l.byte-index }
