use Rattle.std.proofs.Common.{rules, arith, ◌≡◌, ℕ, ◌+◌, ◌<◌, ◌≤◌, ◌∙◌, List, length, sym, ap, subst, false, Ok, Err}
use Rattle.std.proofs.lemmas.Result.{err_from_is_err_and}
use Rattle.snl_frame.specs.Frame.{Unfinished, at_front}
use Rattle.snl_talk.specs.Run.{most_kept}
use Rattle.snl_script.specs.Watched.{calls_of}
use Rattle.snl_talk.proofs.Steps.{Ran-end, Ran-exit, Ran-malformed, Ran-read, Ran-unanswered, Told-gains, Told-on, Told-start, Told-still}
use Rattle.snl_talk.proofs.server.converse.Goals as goal

pub messages-init : goal.messages-init
messages-init g c = record {
  told = Told-start g.D.Answers.talk _ _ _ _ _ c.requires.nothing c.requires.unread;
  going = c.requires.going;
  few = omega arith;
  readable = c.requires.readable;
  writable = c.requires.writable;
}

pub returns-in_err-answer-in-Message-clause-ran : goal.returns-in_err-answer-in-Message-clause-ran
returns-in_err-answer-in-Message-clause-ran g c =
    let p = err_from_is_err_and c.from_residual.result c.from_residual.ensures.1 in
    Ran-unanswered g.D.Answers.talk c.in_err-answer-in-Message.field-0.0 c.from_residual.result _ _ _ _ _ _ _ _ _ (calls_of c.messages.input) c.in-Message.length _ (p.1 ∙ ap Err p.2) c.messages.invariant.told c.messages.invariant.going c.bytes.ensures c.in-Message.ensures c.in_err-answer-in-Message.ensures.answered

pub returns-in-Some-clause-ran : goal.returns-in-Some-clause-ran
returns-in-Some-clause-ran g c =
    let a = c.in_ok-answer-in-Message.ensures.answered in
    Ran-exit g.D.Answers.talk c.ending.result c.in-Some.clean _ _ _ _ _ _ _ _ c.ending.ensures (sym c.in-Some.ensures)
    (Told-on g.D.Answers.talk _ _ _ _ _ _ _ _ _ _ _ (calls_of c.messages.input) c.in-Message.length _ c.messages.invariant.told c.messages.invariant.going c.bytes.ensures c.in-Message.ensures c.skip.ensures a.0 a.1)

pub messages-preserved-in_default : goal.messages-preserved-in_default
messages-preserved-in_default g c =
    let a = c.in_ok-answer-in-Message.ensures.answered in
    record {
      told = Told-on g.D.Answers.talk _ _ _ _ _ _ _ _ _ _ _ (calls_of c.messages.input) c.in-Message.length _ c.messages.invariant.told c.messages.invariant.going c.bytes.ensures c.in-Message.ensures c.skip.ensures a.0 a.1;
      going = search rules;
      few = c.messages.invariant.few;
      readable = c.messages.invariant.readable;
      writable = search rules;
    }

pub returns-in-Malformed-clause-ran : goal.returns-in-Malformed-clause-ran
returns-in-Malformed-clause-ran g c = Ran-malformed g.D.Answers.talk _ _ _ _ _ _ _ _ (calls_of c.messages.input) c.messages.invariant.told c.messages.invariant.going c.bytes.ensures c.in-Malformed.ensures

pub returns-then-not-branch-clause-ran : goal.returns-then-not-branch-clause-ran
returns-then-not-branch-clause-ran g c =
    let h = c.in_ok-read_more_within-in-Short.ensures in
    let ended : c.in_ok-read_more_within-in-Short.field-0 ≡ false = c.if-not-branch.true in
    let same : c.read_more_within.new.self ≡ c.messages.ahead = h.same (λ e. cc) in
    let short = subst (λ (l : List ℕ). at_front l ≡ Unfinished) (c.bytes.ensures ∙ sym same) c.in-Short.ensures in
    let told = Told-still g.D.Answers.talk c.messages_stay.ensures _ _ _ _ _ _ _ _ _ (calls_of c.messages.input) c.messages.invariant.told h.gains same in
    Ran-end g.D.Answers.talk c.at_end.result _ _ _ _ _ _ _ _ told c.messages.invariant.going (h.end (ap Ok ended)) short c.at_end.ensures.ended c.at_end.ensures.cut

pub messages-preserved : goal.messages-preserved
messages-preserved g c =
    let h = c.in_ok-read_more_within-in-Short.ensures in
    let once : calls_of c.read_more_within.new.script ≡ calls_of c.messages.input + 1 = h.calls in
    let more : length c.messages.ahead < length c.read_more_within.new.self = h.more (ap Ok c.if-not-branch.false) in
    let few : length c.read_more_within.new.self ≤ length c.messages.ahead + 4096 = h.few in
    let bound = c.unfinished_are_bounded.ensures _ c.in-Short.ensures in
    let kept : length c.read_more_within.new.self ≤ most_kept = omega (arith, few, ap length c.bytes.ensures, bound) in
    record {
      told = Told-gains g.D.Answers.talk c.messages_stay.ensures _ _ _ _ _ _ _ _ _ (calls_of c.messages.input) (calls_of c.read_more_within.new.script) c.messages.invariant.told h.gains (omega arith) kept;
      going = c.messages.invariant.going;
      few = h.most c.messages.invariant.few;
      readable = search rules;
      writable = c.messages.invariant.writable;
    }

pub returns-in_err-read_more_within-in-Short-clause-ran : goal.returns-in_err-read_more_within-in-Short-clause-ran
returns-in_err-read_more_within-in-Short-clause-ran g c =
    let h = c.in_err-read_more_within-in-Short.ensures in
    let p = err_from_is_err_and c.from_residual-in_err-read_more_within-in-Short.result c.from_residual-in_err-read_more_within-in-Short.ensures.1 in
    let same : c.read_more_within.new.self ≡ c.messages.ahead = h.same (λ e. cc) in
    let short = subst (λ (l : List ℕ). at_front l ≡ Unfinished) (c.bytes.ensures ∙ sym same) c.in-Short.ensures in
    let told = Told-still g.D.Answers.talk c.messages_stay.ensures _ _ _ _ _ _ _ _ _ (calls_of c.messages.input) c.messages.invariant.told h.gains same in
    Ran-read g.D.Answers.talk c.in_err-read_more_within-in-Short.field-0.0 c.from_residual-in_err-read_more_within-in-Short.result _ _ _ _ _ _ _ _ (p.1 ∙ ap Err p.2) told c.messages.invariant.going short (λ e. (h.turns (ap Err e)).0)
