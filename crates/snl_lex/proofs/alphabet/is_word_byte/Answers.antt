use Rattle.std.proofs.Common.{arith, sym, ap, ◌∙◌, inl, inr}
use Rattle.snl_lex.proofs.Table.{is_word_start, word_table, not_word}
use Rattle.snl_lex.proofs.alphabet.is_word_byte.Goals as goal

pub returns-in-Letter : goal.returns-in-Letter
returns-in-Letter c =
    let known = ap is_word_start c.start_of.ensures ∙ word_table c.args.byte (omega arith) in
    elim c.in-Letter.is [ inl e ↦ sym (ap is_word_start e) ∙ known | inr e ↦ sym (ap is_word_start e) ∙ known ]

pub returns-in_default : goal.returns-in_default
returns-in_default c =
    not_word c.start_of.result c.in_default.not-Letter c.in_default.not-Digit ∙ (ap is_word_start c.start_of.ensures ∙ word_table c.args.byte (omega arith))
