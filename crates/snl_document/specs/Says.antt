-- What a text says, as a client is told it.
use Rattle.std.specs.Prelude.{ℕ, List}
use Rattle.snl_place.specs.declared.places.Encoding.{Encoding}
use Rattle.snl_say.specs.Answered.{Answered}
use Rattle.snl_say.specs.Publish.{Found}
use Rattle.snl_hear.specs.Requests.{Query}

-- By the text alone, and by how places are counted: what is found in it, and the answer to each
-- question on it.
pub record Says : Type 0 where
  pub found_in : Encoding → (text : List ℕ) → List Found
  pub answer_in : Encoding → (text : List ℕ) → Query → Answered
