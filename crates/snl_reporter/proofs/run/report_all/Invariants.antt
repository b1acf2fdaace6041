use Rattle.std.proofs.Common.{◌≡◌, ◌+◌, ◌-◌, ◌*◌, ◌≤◌, false, length}
use Rattle.snl_script.specs.Watched.{calls_of, failed_of, inner_of}
use Rattle.snl_reporter.specs.Requests.{worst_of}
use Rattle.snl_reporter.specs.Runs.{Told, number_after}
use Rattle.snl_reporter.proofs.run.report_all.Given as goal

-- the texts before the bytes that are ahead were answered
abbrev pub invariant-texts : goal.invariant-texts
invariant-texts g l =
    let remaining = g.R.Read.remaining in
    let contents = g.W.Write.contents in
    record {
      told : Told l.style (remaining (inner_of l.initial.input)) (remaining (inner_of l.input)) (contents (inner_of l.initial.out)) (contents (inner_of l.out))
          (λ rest rs. (rest ≡ l.ahead) × (l.worst ≡ worst_of rs) × (l.number ≡ number_after rs));
      few : calls_of l.input ≤ 16777216;
      readable : failed_of l.input ≡ false;
      writable : failed_of l.out ≡ false;
    }

abbrev pub decreases-texts : goal.decreases-texts
decreases-texts g l = 4097 * (16777216 - calls_of l.input) + length l.ahead
