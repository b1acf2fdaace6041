use Rattle.snl_questions.proofs.Like.{like_meaning, like_near}
use Rattle.snl_questions.proofs.meanings.laws.names_mean_their_like.Goals as goal

pub returns : goal.returns
returns c = record { exact = like_meaning; near = like_near }
