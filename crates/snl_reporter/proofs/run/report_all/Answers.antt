use Rattle.std.proofs.Common.{rules, ◌≡◌, ◌∙◌, sym, ap, false, Ok, Err}
use Rattle.std.proofs.lemmas.Result.{err_from_is_err_and}
use Rattle.snl_reporter.specs.declared.front.Front.TheVariants.{Short}
use Rattle.snl_reporter.specs.Fronts.{front_of}
use Rattle.snl_reporter.proofs.RunLemmas.{Ran-end, Ran-part, Ran-read, Told-gains, Told-on, ToldPart-on}
use Rattle.snl_reporter.proofs.run.report_all.Goals as goal

pub texts-preserved-in-Whole : goal.texts-preserved-in-Whole
texts-preserved-in-Whole g c =
    let a = c.in_ok-status-in-Whole.ensures in
    record {
      told = Told-on c.args.style _ _ _ _ _ _ _ _ _ _ _ _ _ c.in-Whole.line c.in-Whole.name c.in-Whole.text c.texts.invariant.told c.bytes-bytes.ensures (sym c.in-Whole.ensures.front) c.skip.ensures a.written a.status c.worse-worst.ensures c.saturating_add-number.ensures;
      few = c.texts.invariant.few;
      readable = c.texts.invariant.readable;
      writable = search rules;
    }

pub returns-in_err-status-in-Whole-clause-ran : goal.returns-in_err-status-in-Whole-clause-ran
returns-in_err-status-in-Whole-clause-ran g c =
    let a = c.in_err-status-in-Whole.ensures in
    let p = err_from_is_err_and c.from_residual.result c.from_residual.ensures.1 in
    Ran-part c.args.style c.in_err-status-in-Whole.field-0.0 c.from_residual.result _ _ _ _ (p.1 ∙ ap Err p.2) a.fault (ToldPart-on c.args.style _ _ _ _ _ _ _ _ _ c.in-Whole.line c.in-Whole.name c.in-Whole.text c.texts.invariant.told c.bytes-bytes.ensures (sym c.in-Whole.ensures.front) a.written)

pub returns-then-not-branch-clause-ran : goal.returns-then-not-branch-clause-ran
returns-then-not-branch-clause-ran g c =
    let h = c.in_ok-read_more-in-Short.ensures in
    let ended : c.in_ok-read_more-in-Short.field-0 ≡ false = c.if-not-branch.true in
    let same : c.read_more.new.self ≡ c.texts.ahead = h.same (λ e. cc) in
    let short : front_of c.read_more.new.self ≡ Short = ap front_of (same ∙ sym c.bytes-bytes.ensures) ∙ sym c.in-Short.ensures.front in
    Ran-end c.args.style c.at_end.result _ _ _ _ _ _ _ (Told-gains c.args.style _ _ _ _ _ _ _ _ _ c.texts.invariant.told h.gains) (h.end (ap Ok ended)) short c.at_end.ensures.ended c.at_end.ensures.cut

pub texts-preserved : goal.texts-preserved
texts-preserved g c =
    let h = c.in_ok-read_more-in-Short.ensures in
    record {
      told = Told-gains c.args.style _ _ _ _ _ _ _ _ _ c.texts.invariant.told h.gains;
      few = h.most c.texts.invariant.few;
      readable = search rules;
      writable = c.texts.invariant.writable;
    }

pub returns-in_err-read_more-in-Short-clause-ran : goal.returns-in_err-read_more-in-Short-clause-ran
returns-in_err-read_more-in-Short-clause-ran g c =
    let h = c.in_err-read_more-in-Short.ensures in
    let p = err_from_is_err_and c.from_residual-in_err-read_more-in-Short.result c.from_residual-in_err-read_more-in-Short.ensures.1 in
    Ran-read c.args.style c.in_err-read_more-in-Short.field-0.0 c.from_residual-in_err-read_more-in-Short.result _ _ _ _ _ _ _ (p.1 ∙ ap Err p.2) (Told-gains c.args.style _ _ _ _ _ _ _ _ _ c.texts.invariant.told h.gains)
