use Rattle.std.proofs.Common.{sym, ◌∙◌}
use Rattle.snl_lex.proofs.Fronts.{two_count}
use Rattle.snl_lex.proofs.word.word_on_s.Goals as goal

pub returns-in-115 : goal.returns-in-115
returns-in-115 c = c.lone_word.ensures ∙ sym (two_count c.args.word.now 115 114 c.requires (sym c.byte_at.ensures ∙ c.in-115.is))

pub returns-in-116 : goal.returns-in-116
returns-in-116 c = c.word_on_st.ensures ∙ sym (two_count c.args.word.now 115 115 c.requires (sym c.byte_at.ensures ∙ c.in-116.is))

pub returns-in-121 : goal.returns-in-121
returns-in-121 c = c.word_on_sy.ensures ∙ sym (two_count c.args.word.now 115 120 c.requires (sym c.byte_at.ensures ∙ c.in-121.is))

pub returns-in-104 : goal.returns-in-104
returns-in-104 c = c.lone_word-in-104.ensures ∙ sym (two_count c.args.word.now 115 103 c.requires (sym c.byte_at.ensures ∙ c.in-104.is))

pub returns-in-105 : goal.returns-in-105
returns-in-105 c = c.lone_word-in-105.ensures ∙ sym (two_count c.args.word.now 115 104 c.requires (sym c.byte_at.ensures ∙ c.in-105.is))
