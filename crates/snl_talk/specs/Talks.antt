-- Whoever answers the messages of a client, by what is kept from one to the next (S).
use Rattle.std.specs.Prelude.{ℕ, Bool, List, Option}
use Rattle.snl_turns.specs.Turns.{Turn}

-- What is kept after a message; whether the talk ended, and if it did, whether after `shutdown`;
-- and the bodies of the answers to a message, in order.
pub record Talk (S : Type 0) : Type 0 where
  pub after : S → Turn → S
  pub ended : S → Option Bool
  pub replies : S → Turn → List (List ℕ)

abbrev pub after : {S : Type 0} → Talk S → S → Turn → S
after talk served turn = talk.after served turn

abbrev pub ended_of : {S : Type 0} → Talk S → S → Option Bool
ended_of talk served = talk.ended served

abbrev pub replies : {S : Type 0} → Talk S → S → Turn → List (List ℕ)
replies talk served turn = talk.replies served turn
