-- What is known of a message by the bytes that are there.
use Rattle.std.specs.Prelude.{◌≡◌, ℕ, ◌+◌, ◌^◌, ◌<◌, ◌≤◌, List, ◌++◌, length, drop, ⊤}
use Rattle.snl_frame.specs.declared.messages.Front.{Front}
use Rattle.snl_frame.specs.declared.messages.Front.TheVariants.{Short, Malformed, HeaderAlone, Whole}
use Rattle.snl_frame.specs.Frame.{AtFront, Unfinished, NoMessage, NoLength, Message, at_front}

-- What is at the front has so many bytes, whatever follows. `answer` tells it by what is after it.
pub record IsWhole (told : List ℕ → AtFront) (bytes : List ℕ) (answer : List ℕ → AtFront)
    (len : ℕ) : Type 0 where
  pub inside : len ≤ length bytes
  pub told_is : (more : List ℕ) → told (bytes ++ more) ≡ answer (drop len bytes ++ more)

-- What is at the front, where `told` tells it by the bytes.
abbrev pub IsFrontBy : (told : List ℕ → AtFront) → List ℕ → Front → Type 0
IsFrontBy told bytes Short = told bytes ≡ Unfinished
IsFrontBy told bytes Malformed = (more : List ℕ) → told (bytes ++ more) ≡ NoMessage
IsFrontBy told bytes (HeaderAlone len) = IsWhole told bytes NoLength len
IsFrontBy told bytes (Whole body len) = IsWhole told bytes (Message body.now) len

-- A message at the front of the bytes isn't all there; or none can be there; or a header that gives
-- no length is there, or a message. Each but the first holds whatever follows.
abbrev pub IsFront : List ℕ → Front → Type 0
IsFront bytes front = IsFrontBy at_front bytes front

-- What is there has some bytes, so that whoever goes on after it gets further.
abbrev pub TakesBytes : Front → Type 0
TakesBytes Short = ⊤
TakesBytes Malformed = ⊤
TakesBytes (HeaderAlone len) = 1 ≤ len
TakesBytes (Whole body len) = 1 ≤ len

-- What is at the front so many bytes further on, told from here.
abbrev pub moved : ℕ → Front → Front
moved by Short = Short
moved by Malformed = Malformed
moved by (HeaderAlone len) = HeaderAlone (by + len)
moved by (Whole body len) = Whole body (by + len)

-- With so many bytes before it, its length is still a number of 64 bits.
abbrev pub Fits : ℕ → Front → Type 0
Fits by Short = ⊤
Fits by Malformed = ⊤
Fits by (HeaderAlone len) = by + len < 2 ^ 64
Fits by (Whole body len) = by + len < 2 ^ 64

-- What is at the front, where more bytes follow.
abbrev pub grown : AtFront → (more : List ℕ) → AtFront
grown Unfinished more = Unfinished
grown NoMessage more = NoMessage
grown (NoLength rest) more = NoLength (rest ++ more)
grown (Message body rest) more = Message body (rest ++ more)
