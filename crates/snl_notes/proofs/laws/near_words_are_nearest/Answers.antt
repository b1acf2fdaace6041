use Rattle.snl_notes.proofs.NearWords.{near_told}
use Rattle.snl_notes.proofs.laws.near_words_are_nearest.Goals as goal

pub returns : goal.returns
returns c name kinds word e = near_told name kinds word e
