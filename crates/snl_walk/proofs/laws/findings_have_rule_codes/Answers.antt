use Rattle.std.proofs.lemmas.List.Elements.{All-from_recursion}
use Rattle.std.proofs.Common.{◌≡◌, true}
use Rattle.snl_walk.specs.declared.rules.Finding.{Finding}
use Rattle.snl_codes.specs.Codes.{is_rule_code}
use Rattle.snl_walk.specs.Rules.{findings}
use Rattle.snl_walk.proofs.RulesHold.{rule_codes}
use Rattle.snl_walk.proofs.laws.findings_have_rule_codes.Goals as goal

pub returns : goal.returns
returns c = λ bytes outer misses found.
    All-from_recursion (λ (f : Finding). is_rule_code f.code ≡ true) (findings bytes outer misses found) (rule_codes bytes outer misses found)
