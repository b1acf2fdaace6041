use Rattle.snl_docs.proofs.Answered.{answered_alone, question_by_text}
use Rattle.snl_docs.proofs.laws.answered_by_text.Goals as goal

pub returns-clause-question : goal.returns-clause-question
returns-clause-question c =
    λ says s turn id uri text query. question_by_text says s turn id uri text query

pub returns-clause-alone : goal.returns-clause-alone
returns-clause-alone c =
    λ says s other turn id asked uri. answered_alone says s other turn id asked uri
