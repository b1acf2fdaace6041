use Rattle.std.proofs.Common.{◌≡◌, true}
use Rattle.std.proofs.lemmas.List.Elements.{All-from_recursion}
use Rattle.snl_codes.specs.Codes.{is_error}
use Rattle.snl_kept.specs.Diagnostics.{diagnostics_of}
use Rattle.snl_finding_laws.proofs.Withheld.{all_where_on, errors_shown, withheld}
use Rattle.snl_finding_laws.proofs.option_laws.options_withhold_warnings.Goals as goal

pub returns-clause-off : goal.returns-clause-off
returns-clause-off c = λ text off. All-from_recursion (λ d. is_error d.code ≡ true) (diagnostics_of text) (withheld text off)

pub returns-clause-on : goal.returns-clause-on
returns-clause-on c = all_where_on

pub returns-clause-errors : goal.returns-clause-errors
returns-clause-errors c = errors_shown
