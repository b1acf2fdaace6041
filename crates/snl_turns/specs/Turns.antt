-- One message of a client, and what it says.
use Rattle.std.specs.Prelude.{ℕ, List, None}
use Rattle.snl_hear.specs.Heard.{Heard, heard_in}
use Rattle.snl_hear.specs.Json.{json_in}
use Rattle.snl_turns.specs.declared.turn.Turn.{Turn as GivenTurn}
use Rattle.snl_turns.specs.declared.turn.Turn.TheVariants as given

-- A header that gives no length, or the bytes of a body.
pub data Turn : Type 0 where
  HeaderAlone : Turn
  Body : (bytes : List ℕ) → Turn

abbrev pub turn_of : GivenTurn → Turn
turn_of given.HeaderAlone = HeaderAlone
turn_of (given.Body bytes) = Body bytes.now

-- What the message says. What comes without a length says as little as what is no JSON.
abbrev pub heard_at : Turn → Heard
heard_at HeaderAlone = heard_in None
heard_at (Body bytes) = heard_in (json_in bytes)
