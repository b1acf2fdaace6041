use Rattle.std.proofs.Common.{rules, ◌≡◌, ◌∙◌, ap₂}
use Rattle.std.proofs.lemmas.Result.{IfOk-weaker}
use Rattle.clap.specs.Words.{rule_of, with_rule}
use Rattle.snl_words.specs.Source.{source_rule}
use Rattle.snl_words.proofs.SourceLemmas.{source_app-made}
use Rattle.snl_words.proofs.source_command.Goals as goal

pub returns : goal.returns
returns c =
    let rule_is : rule_of c.long-source.result ≡ source_rule = search rules in
    IfOk-weaker c.arg.result _ _ (λ command added. added.shape (search rules) ∙ ap₂ with_rule c.new-2.ensures.app rule_is ∙ source_app-made) c.arg.ensures
