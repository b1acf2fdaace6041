use Rattle.std.proofs.Common.{ap, not, sym, ◌∙◌, refl}
use Rattle.snl_lex.specs.Kinds.{is_word, words}
use Rattle.snl_lex.proofs.Spellings.{had_one, not_had}
use Rattle.snl_lex.proofs.word.is_word.Goals as goal
use Rattle.snl_lex.proofs.word.is_word.Goals.{in-Bad, in_default}

pub returns : goal.returns
unfolding is_word
returns c =
    elim c.match-matches.branch [
      | in-Bad w ↦ ap not w.matches-is ∙ sym (not_had c.args.name.now words refl (sym c.word_kind.ensures ∙ w.in-Bad.is))
      | in_default w ↦ ap not w.matches-is ∙ sym (had_one c.args.name.now words (λ e. w.in_default.not-Bad (c.word_kind.ensures ∙ e)))
    ]
