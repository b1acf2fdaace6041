use Rattle.std.proofs.Common.{◌++◌, ◌∙◌, ap, sym, append_assoc, codes}
use Rattle.std.specs.Prelude.{string_bytes}
use Rattle.snl_notes.specs.Words.{suggestion}
use Rattle.snl_notes.proofs.words.put_suggestion.Goals as goal

pub returns : goal.returns
returns c =
    let old = string_bytes c.args.out.now in
    c.in_ok-put_question.ensures
    ∙ ap (λ l. l ++ (c.phrase.result.now ++ codes "?")) c.in_ok-push_str.ensures.bytes
    ∙ append_assoc old (codes "; did you mean ") (c.phrase.result.now ++ codes "?")
    ∙ ap (λ p. old ++ (codes "; did you mean " ++ (p ++ codes "?"))) c.phrase.ensures
    ∙ ap (λ o. old ++ suggestion o) (sym c.in-Some.is)
