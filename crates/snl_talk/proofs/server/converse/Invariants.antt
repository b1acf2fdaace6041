use Rattle.std.proofs.Common.{◌≡◌, ◌+◌, ◌-◌, ◌*◌, ◌^◌, ◌≤◌, None, false, length}
use Rattle.snl_talk.specs.Run.{Told}
use Rattle.snl_talk.specs.Talks.{ended_of}
use Rattle.snl_script.specs.Watched.{calls_of, failed_of, inner_of}
use Rattle.snl_talk.proofs.Steps.{At}
use Rattle.snl_talk.proofs.server.converse.Given as goal

-- the messages before the bytes that are ahead were answered, and their transcript written
abbrev pub invariant-messages : goal.invariant-messages
invariant-messages g l =
    let remaining = g.R.Read.remaining in
    let contents = g.W.Write.contents in
    let talk = g.D.Answers.talk in
    record {
      told : Told talk (remaining (inner_of l.initial.input)) (remaining (inner_of l.input)) (contents (inner_of l.initial.out)) (contents (inner_of l.out)) l.initial.docs
          (At l.ahead l.docs (calls_of l.input));
      going : ended_of talk l.docs ≡ None;
      few : calls_of l.input ≤ 2 ^ 40;
      readable : failed_of l.input ≡ false;
      writable : failed_of l.out ≡ false;
    }

abbrev pub decreases-messages : goal.decreases-messages
decreases-messages g l = 4097 * (2 ^ 40 - calls_of l.input) + length l.ahead
