use Rattle.std.proofs.Common.{rules, sym, ap, ◌∙◌, cond, filter}
use Rattle.std.proofs.lemmas.List.Elements.{filter_from_retain}
use Rattle.snl_codes.specs.Codes.{is_error}
use Rattle.snl_kept.specs.declared.found.findings.Finding.{Finding}
use Rattle.snl_kept.proofs.found.diagnose.keep_shown.Goals as goal

pub returns-then-not-warns : goal.returns-then-not-warns
returns-then-not-warns c =
    let found = c.args.found.now.items in
    let kept = filter (λ (x : Finding). is_error x.code) found in
    filter_from_retain _ (λ (x : Finding). is_error x.code) (λ p x b q k. search rules) _ found _ c.retain.ensures.filtered
    ∙ sym (ap (λ b. cond b found kept) (c.if-not-warns.true))
