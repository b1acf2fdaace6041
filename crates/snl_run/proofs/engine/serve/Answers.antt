use Rattle.std.proofs.Common.{rules, arith, ◌≡◌, ℕ, ◌+◌, ◌<◌, ◌≤◌, ◌∙◌, List, length, sym, ap, subst, false, Ok, Err}
use Rattle.std.proofs.lemmas.Result.{err_from_is_err_and}
use Rattle.snl_script.specs.Front.{unfinished}
use Rattle.snl_script.specs.Script.{next_of}
use Rattle.snl_script.specs.Watched.{calls_of}
use Rattle.snl_run.specs.Run.{most_kept}
use Rattle.snl_run.proofs.RunLemmas.{Ran-end, Ran-read, Told-gains, Told-malformed, Told-on, Told-start, Told-still, ToldPart-on}
use Rattle.snl_run.proofs.engine.serve.Goals as goal

pub commands-init : goal.commands-init
commands-init g c = record {
  told = Told-start _ _ _ _ _ c.requires.nothing c.requires.unread;
  few = omega arith;
  readable = c.requires.readable;
  writable = c.requires.writable;
}

pub commands-preserved-in-Whole : goal.commands-preserved-in-Whole
commands-preserved-in-Whole g c =
    let a = c.in_ok-answer-in-Whole.ensures.answered in
    record {
      told = Told-on _ _ _ _ _ _ _ _ _ _ _ _ _ c.in-Whole.length c.in-Whole.command a.starved c.commands.invariant.told c.bytes.ensures c.in-Whole.ensures c.skip.ensures a.fair a.next_is a.written;
      few = c.commands.invariant.few;
      readable = c.commands.invariant.readable;
      writable = search rules;
    }

pub returns-in_err-answer-in-Whole-clause-ran : goal.returns-in_err-answer-in-Whole-clause-ran
returns-in_err-answer-in-Whole-clause-ran g c =
    let a = c.in_err-answer-in-Whole.ensures.answered in
    let p = err_from_is_err_and c.from_residual.result c.from_residual.ensures.1 in
    rw (p.1, p.2) (ToldPart-on _ _ _ _ _ _ _ _ _ _ _ c.in-Whole.length c.in-Whole.command a.starved c.commands.invariant.told c.bytes.ensures c.in-Whole.ensures a.fair a.written)

pub returns-in-Malformed-clause-ran : goal.returns-in-Malformed-clause-ran
returns-in-Malformed-clause-ran g c = Told-malformed _ _ _ _ _ _ _ _ _ _ c.commands.invariant.told c.bytes.ensures c.in-Malformed.ensures

pub returns-then-not-branch-clause-ran : goal.returns-then-not-branch-clause-ran
returns-then-not-branch-clause-ran g c =
    let h = c.in_ok-read_more-in-Short.ensures in
    let ended : c.in_ok-read_more-in-Short.field-0 ≡ false = c.if-not-branch.true in
    let same : c.read_more.new.self ≡ c.commands.ahead = h.same (λ e. cc) in
    let short = subst (λ (l : List ℕ). next_of l ≡ unfinished l) (c.bytes.ensures ∙ sym same) c.in-Short.ensures.next in
    let told = Told-still c.whole_commands_stay.ensures _ _ _ _ _ _ _ _ _ _ (calls_of c.commands.script) c.commands.invariant.told h.gains same in
    Ran-end c.at_end.result _ _ _ _ _ _ _ _ _ told (h.end (ap Ok ended)) short c.at_end.ensures.ended c.at_end.ensures.malformed

pub commands-preserved : goal.commands-preserved
commands-preserved g c =
    let h = c.in_ok-read_more-in-Short.ensures in
    let once : calls_of c.read_more.new.script ≡ calls_of c.commands.script + 1 = h.calls in
    let more : length c.commands.ahead < length c.read_more.new.self = h.more (ap Ok c.if-not-branch.false) in
    let few : length c.read_more.new.self ≤ length c.commands.ahead + 4096 = h.few in
    let kept : length c.read_more.new.self ≤ most_kept = omega (arith, few, ap length c.bytes.ensures, c.in-Short.ensures.few) in
    record {
      told = Told-gains c.whole_commands_stay.ensures _ _ _ _ _ _ _ _ _ _ (calls_of c.commands.script) (calls_of c.read_more.new.script) c.commands.invariant.told h.gains (omega arith) (omega arith) (omega arith) kept;
      few = h.most c.commands.invariant.few;
      readable = search rules;
      writable = c.commands.invariant.writable;
    }

pub returns-in_err-read_more-in-Short-clause-ran : goal.returns-in_err-read_more-in-Short-clause-ran
returns-in_err-read_more-in-Short-clause-ran g c =
    let h = c.in_err-read_more-in-Short.ensures in
    let p = err_from_is_err_and c.from_residual-in_err-read_more-in-Short.result c.from_residual-in_err-read_more-in-Short.ensures.1 in
    let same : c.read_more.new.self ≡ c.commands.ahead = h.same (λ e. cc) in
    let short = subst (λ (l : List ℕ). next_of l ≡ unfinished l) c.bytes.ensures c.in-Short.ensures.next in
    let told = Told-still c.whole_commands_stay.ensures _ _ _ _ _ _ _ _ _ _ (calls_of c.commands.script) c.commands.invariant.told h.gains same in
    Ran-read c.in_err-read_more-in-Short.field-0.0 c.from_residual-in_err-read_more-in-Short.result _ _ _ _ _ _ _ _ _ (p.1 ∙ ap Err p.2) told (subst (λ (l : List ℕ). next_of l ≡ unfinished l) (sym same) short) (λ e. (h.turns (ap Err e)).0)
