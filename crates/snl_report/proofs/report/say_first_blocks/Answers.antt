use Rattle.std.proofs.Common.{[], refl}
use Rattle.snl_script.specs.SaidLaws.{Appends-none, Said-err}
use Rattle.snl_report.proofs.report.say_first_blocks.Goals as goal

-- nothing was said yet
pub returns-in_err-tokens-clause-said : goal.returns-in_err-tokens-clause-said
returns-in_err-tokens-clause-said g c =
    Said-err c.from_residual.result _ _ _ _ c.from_residual.ensures.0
    (record { written = []; lost = _; part = refl; grown = Appends-none _ })
