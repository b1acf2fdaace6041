use Rattle.snl_lex.proofs.Kept.{back_spelled, back_tokens, front_spelled, front_tokens}
use Rattle.snl_lex.proofs.laws.kept_as_spelled.Goals as goal

pub returns-clause-front : goal.returns-clause-front
returns-clause-front c = front_spelled

pub returns-clause-front_tokens : goal.returns-clause-front_tokens
returns-clause-front_tokens c = front_tokens

pub returns-clause-back : goal.returns-clause-back
returns-clause-back c = back_spelled

pub returns-clause-back_tokens : goal.returns-clause-back_tokens
returns-clause-back_tokens c = back_tokens
