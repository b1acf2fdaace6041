use Rattle.snl_lex.proofs.TableNames.{faulty_told, pieces_told}
use Rattle.snl_lex.proofs.laws.tokens_have_kinds.Goals as goal

pub returns-clause-words : goal.returns-clause-words
returns-clause-words c = λ text k d lt. (pieces_told text k d lt).word

pub returns-clause-punctuators : goal.returns-clause-punctuators
returns-clause-punctuators c = λ text k d lt. (pieces_told text k d lt).punctuator

pub returns-clause-names : goal.returns-clause-names
returns-clause-names c = λ text k d lt. (pieces_told text k d lt).name

pub returns-clause-faulty : goal.returns-clause-faulty
returns-clause-faulty c = faulty_told
