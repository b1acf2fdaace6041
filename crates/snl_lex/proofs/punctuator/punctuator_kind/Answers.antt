use Rattle.std.proofs.Common.{sym, ◌∙◌, refl}
use Rattle.snl_lex.specs.Kinds.{punctuators_of_1, punctuators_of_2, punctuators_of_3}
use Rattle.snl_lex.proofs.Spellings.{among}
use Rattle.snl_lex.proofs.punctuator.punctuator_kind.Goals as goal

pub returns-in-2 : goal.returns-in-2
returns-in-2 c = c.punctuator_of_two.ensures ∙ sym (among c.args.bytes.now 2 punctuators_of_1 punctuators_of_2 punctuators_of_3 c.in-2.is refl refl)
