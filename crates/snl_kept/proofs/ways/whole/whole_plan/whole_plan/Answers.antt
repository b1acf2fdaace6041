use Rattle.std.proofs.Common.{arith, ◌^◌, ◌<◌, length, ap, ◌∙◌}
use Rattle.snl_cut.specs.Cut.{after_ticks}
use Rattle.snl_kept.proofs.Ticks.{exact_ticks}
use Rattle.snl_kept.proofs.ways.whole.whole_plan.whole_plan.Goals as goal

pub returns : goal.returns
returns c =
    let judged = c.in_ok-retold.ensures.told in
    let checked = c.in_ok-retold.retold.kept.checks.made in
    let few_checked : length checked.items < 2 ^ 64 = omega (arith, checked.ok, checked.small) in
    record {
      kept = record { entries = c.requires.made; kept = judged.kept; warns = judged.warns };
      findings = judged.shown;
      tables = judged.tables;
      cost = record {
        lexed = c.requires.editing.lexed;
        parsed = c.requires.parsed;
        checked = c.ticks.ensures ∙ c.in_ok-retold.ensures.ticks ∙ ap (λ n. after_ticks n (length checked.items)) c.requires.checked ∙ exact_ticks (length checked.items) few_checked ∙ judged.stirred;
      };
      pieces = tt;
    }
