use Rattle.std.proofs.Common.{arith, ap, ◌∙◌}
use Rattle.snl_lex.proofs.Table.{is_blank_start, blank_table, not_blank}
use Rattle.snl_lex.proofs.alphabet.is_blank.Goals as goal

pub returns-in-Blank : goal.returns-in-Blank
returns-in-Blank c = ap is_blank_start c.in-Blank.ensures ∙ blank_table c.args.byte (omega arith)

pub returns-in_default : goal.returns-in_default
returns-in_default c =
    not_blank c.start_of.result c.in_default.not-Blank ∙ (ap is_blank_start c.start_of.ensures ∙ blank_table c.args.byte (omega arith))
