use Rattle.std.proofs.Common.{◌≡◌, ◌+◌, ◌-◌, ◌≤◌, [], length}
use Rattle.snl_script.specs.Ahead.{Gains}
use Rattle.snl_script.specs.Watched.{calls_of, failed_of, inner_of}
use Rattle.snl_script.proofs.file.read_whole.Given as goal

-- the bytes so far are what the file gave, at least one a read
abbrev pub invariant-reads : goal.invariant-reads
invariant-reads g l =
    let remaining = g.R.Read.remaining in
    record {
      gains : Gains [] l.bytes.items (remaining (inner_of l.initial.file)) (remaining (inner_of l.file));
      few : length l.bytes.items ≤ l.most + 1;
      calls : calls_of l.file ≤ calls_of l.initial.file + length l.bytes.items;
      failed : failed_of l.file ≡ failed_of l.initial.file;
    }

abbrev pub decreases-reads : goal.decreases-reads
decreases-reads g l = l.most + 1 - length l.bytes.items
