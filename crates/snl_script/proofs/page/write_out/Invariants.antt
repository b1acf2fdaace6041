use Rattle.std.proofs.Common.{◌≡◌, ◌-◌, ◌≤◌, length, take}
use Rattle.std.specs.Io.KnownBytes.{Appends}
use Rattle.snl_script.specs.Watched.{failed_of, inner_of}
use Rattle.snl_script.proofs.page.write_out.Given as goal

-- the bytes before this place were written
abbrev pub invariant-loop-at : goal.invariant-loop-at
invariant-loop-at g l =
    let contents = g.W.Write.contents in
    record {
      within : l.at ≤ length l.bytes;
      written : Appends (contents (inner_of l.initial.out)) (contents (inner_of l.out)) (take l.at l.bytes);
      failed : failed_of l.out ≡ failed_of l.initial.out;
    }

abbrev pub decreases-loop-at : goal.decreases-loop-at
decreases-loop-at g l = length l.bytes - l.at
