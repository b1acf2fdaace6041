-- Messages at the front of bytes.
use Rattle.std.specs.Prelude.{◌≡◌, ◌≢◌, ℕ, List, [], ◌∷◌}
use Rattle.snl_frame.specs.Frame.{AtFront, Message, NoLength, at_front}
use Rattle.snl_turns.specs.Turns.{Turn, HeaderAlone, Body}

-- A message at the front of bytes, and what is after it.
abbrev pub front_with : Turn → (left : List ℕ) → AtFront
front_with HeaderAlone left = NoLength left
front_with (Body body) left = Message body left

-- The bytes are these messages, one after another, and then the rest.
abbrev pub Begins : (bytes : List ℕ) → List Turn → (rest : List ℕ) → Type 0
Begins bytes [] rest = rest ≡ bytes
Begins bytes (t ∷ ts) rest =
    (left : List ℕ) × (at_front bytes ≡ front_with t left) × Begins left ts rest

-- No message is whole at the front of the bytes.
abbrev pub HoldsNone : List ℕ → Type 0
HoldsNone bytes = (turn : Turn) (left : List ℕ) → at_front bytes ≢ front_with turn left
