use Rattle.std.proofs.Common.{arith, ap, ◌∙◌}
use Rattle.snl_lex.proofs.Table.{is_stray_start, stray_table, not_stray}
use Rattle.snl_lex.proofs.alphabet.is_stray.Goals as goal

pub returns-in-Stray : goal.returns-in-Stray
returns-in-Stray c = ap is_stray_start c.in-Stray.ensures ∙ stray_table c.args.byte (omega arith)

pub returns-in_default : goal.returns-in_default
returns-in_default c =
    not_stray c.start_of.result c.in_default.not-Stray ∙ (ap is_stray_start c.start_of.ensures ∙ stray_table c.args.byte (omega arith))
