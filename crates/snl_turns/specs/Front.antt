-- What is known of the message at the front of the bytes that are there.
use Rattle.std.specs.Prelude.{◌≡◌, ℕ, ◌≤◌, List, ◌++◌, length, drop}
use Rattle.snl_turns.specs.Turns.{Turn, turn_of}
use Rattle.snl_frame.specs.Frame.{NoMessage, Unfinished, at_front}
use Rattle.snl_turns.specs.declared.front.Next.{Next}
use Rattle.snl_turns.specs.declared.front.Next.TheVariants.{Short, Malformed, Message}
use Rattle.snl_turns.specs.Begins.{front_with}

-- The message is this one and has this length, whatever follows the bytes.
pub record IsWhole (bytes : List ℕ) (turn : Turn) (len : ℕ) : Type 0 where
  pub some : 1 ≤ len
  pub inside : len ≤ length bytes
  pub next : (more : List ℕ) → at_front (bytes ++ more) ≡ front_with turn (drop len bytes ++ more)

abbrev pub IsNext : List ℕ → Next → Type 0
IsNext bytes Short = at_front bytes ≡ Unfinished
IsNext bytes Malformed = (more : List ℕ) → at_front (bytes ++ more) ≡ NoMessage
IsNext bytes (Message turn len) = IsWhole bytes (turn_of turn) len
