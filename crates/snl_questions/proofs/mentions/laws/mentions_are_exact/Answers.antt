use Rattle.std.proofs.lemmas.List.Elements.{All-from_recursion}
use Rattle.snl_questions.specs.Mentions.{mentions_in}
use Rattle.snl_questions.proofs.ExactMentions.{IsExact, all_exact, whole}
use Rattle.snl_questions.proofs.mentions.laws.mentions_are_exact.Goals as goal

pub returns : goal.returns
returns c = record {
  sound = λ text. All-from_recursion (IsExact text) (mentions_in text) (all_exact text);
  whole = whole;
}
