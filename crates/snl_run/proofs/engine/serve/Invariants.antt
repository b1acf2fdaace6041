use Rattle.std.proofs.Common.{◌≡◌, ◌+◌, ◌-◌, ◌*◌, ◌≤◌, false, length}
use Rattle.snl_run.specs.Run.{Told}
use Rattle.snl_script.specs.Watched.{calls_of, failed_of, inner_of}
use Rattle.snl_run.proofs.engine.serve.Given as goal

-- the commands before the bytes that are ahead were carried out, and their transcript written
abbrev pub invariant-commands : goal.invariant-commands
invariant-commands g l =
    let remaining = g.R.Read.remaining in
    let contents = g.W.Write.contents in
    record {
      told : Told (remaining (inner_of l.initial.script)) (remaining (inner_of l.script)) (contents (inner_of l.initial.out)) (contents (inner_of l.out)) l.initial.document
          (λ read rest last. (rest ≡ l.ahead) × (last ≡ l.document) × (l.offset + length rest ≡ length read) × (length read ≤ 4096 * calls_of l.script) × (calls_of l.script ≤ length read));
      few : calls_of l.script ≤ 16777216;
      readable : failed_of l.script ≡ false;
      writable : failed_of l.out ≡ false;
    }

abbrev pub decreases-commands : goal.decreases-commands
decreases-commands g l = 4097 * (16777216 - calls_of l.script) + length l.ahead
