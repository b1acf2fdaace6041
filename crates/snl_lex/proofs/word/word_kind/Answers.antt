use Rattle.std.proofs.Common.{sym, ◌∙◌}
use Rattle.snl_lex.proofs.Fronts.{first_counts}
use Rattle.snl_lex.proofs.word.word_kind.Goals as goal

pub returns-in-97 : goal.returns-in-97
returns-in-97 c = c.lone_word.ensures ∙ sym (first_counts c.args.word.now 96 (sym c.byte_at.ensures ∙ c.in-97.is))

pub returns-in-98 : goal.returns-in-98
returns-in-98 c = c.lone_word-in-98.ensures ∙ sym (first_counts c.args.word.now 97 (sym c.byte_at.ensures ∙ c.in-98.is))

pub returns-in-99 : goal.returns-in-99
returns-in-99 c = c.word_on_c.ensures ∙ sym (first_counts c.args.word.now 98 (sym c.byte_at.ensures ∙ c.in-99.is))

pub returns-in-100 : goal.returns-in-100
returns-in-100 c = c.lone_word-in-100.ensures ∙ sym (first_counts c.args.word.now 99 (sym c.byte_at.ensures ∙ c.in-100.is))

pub returns-in-101 : goal.returns-in-101
returns-in-101 c = c.word_on_e.ensures ∙ sym (first_counts c.args.word.now 100 (sym c.byte_at.ensures ∙ c.in-101.is))

pub returns-in-102 : goal.returns-in-102
returns-in-102 c = c.word_on_f.ensures ∙ sym (first_counts c.args.word.now 101 (sym c.byte_at.ensures ∙ c.in-102.is))

pub returns-in-105 : goal.returns-in-105
returns-in-105 c = c.word_on_i.ensures ∙ sym (first_counts c.args.word.now 104 (sym c.byte_at.ensures ∙ c.in-105.is))

pub returns-in-108 : goal.returns-in-108
returns-in-108 c = c.lone_word-in-108.ensures ∙ sym (first_counts c.args.word.now 107 (sym c.byte_at.ensures ∙ c.in-108.is))

pub returns-in-109 : goal.returns-in-109
returns-in-109 c = c.lone_word-in-109.ensures ∙ sym (first_counts c.args.word.now 108 (sym c.byte_at.ensures ∙ c.in-109.is))

pub returns-in-111 : goal.returns-in-111
returns-in-111 c = c.lone_word-in-111.ensures ∙ sym (first_counts c.args.word.now 110 (sym c.byte_at.ensures ∙ c.in-111.is))

pub returns-in-112 : goal.returns-in-112
returns-in-112 c = c.lone_word-in-112.ensures ∙ sym (first_counts c.args.word.now 111 (sym c.byte_at.ensures ∙ c.in-112.is))

pub returns-in-114 : goal.returns-in-114
returns-in-114 c = c.lone_word-in-114.ensures ∙ sym (first_counts c.args.word.now 113 (sym c.byte_at.ensures ∙ c.in-114.is))

pub returns-in-116 : goal.returns-in-116
returns-in-116 c = c.word_on_t.ensures ∙ sym (first_counts c.args.word.now 115 (sym c.byte_at.ensures ∙ c.in-116.is))

pub returns-in-117 : goal.returns-in-117
returns-in-117 c = c.word_on_u.ensures ∙ sym (first_counts c.args.word.now 116 (sym c.byte_at.ensures ∙ c.in-117.is))

pub returns-in-118 : goal.returns-in-118
returns-in-118 c = c.lone_word-in-118.ensures ∙ sym (first_counts c.args.word.now 117 (sym c.byte_at.ensures ∙ c.in-118.is))

pub returns-in-119 : goal.returns-in-119
returns-in-119 c = c.word_on_w.ensures ∙ sym (first_counts c.args.word.now 118 (sym c.byte_at.ensures ∙ c.in-119.is))
