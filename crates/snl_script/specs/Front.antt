-- What is known of a command by the bytes that are there.
use Rattle.std.specs.Prelude.{◌≡◌, ℕ, ◌+◌, ◌-◌, ◌==◌, ◌≤◌, List, [], ◌∷◌, ◌++◌, length, take, drop, Option, Some, None, position}
use Rattle.snl_script.specs.declared.script.Command.{Command}
use Rattle.snl_script.specs.declared.script.Command.TheVariants.{Check, List as Listing, Work, Edit}
use Rattle.snl_script.specs.declared.script.Front.{Front}
use Rattle.snl_script.specs.declared.script.Front.TheVariants.{Short, Malformed, Whole}
use Rattle.snl_script.specs.declared.script.Heading.{Heading}
use Rattle.snl_script.specs.declared.script.Heading.TheVariants as heading
use denote.Ref.{Bor}
use Rattle.snl_script.specs.Script.{Request, Checks, Lists, Works, Edits, Next, Ends, Unknown, Then, headed, heading_of, next_of, words_of}

-- The command, with its bytes.
abbrev pub request_of : Command → Request
request_of Check = Checks
request_of Listing = Lists
request_of Work = Works
request_of (Edit start stop new) = Edits start stop new.now

-- What bytes are that end before a command does.
abbrev pub unfinished : List ℕ → Next
unfinished [] = Ends
unfinished (b ∷ bytes) = Unknown

-- The command is this one and has this length, whatever follows the bytes.
pub record IsWhole (bytes : List ℕ) (command : Command) (len : ℕ) : Type 0 where
  pub some : 1 ≤ len
  pub inside : len ≤ length bytes
  pub next : (more : List ℕ) → next_of (bytes ++ more) ≡ Then (request_of command) (drop len bytes ++ more)

-- The words after a word's space, if there is one.
abbrev pub words_after : Option (Bor (List ℕ)) → List (List ℕ)
words_after None = []
words_after (Some words) = words_of words.now

-- What is at the front, where `next` tells it by the bytes after a line, which has this length with
-- its LF.
pub record IsWholeAfter (next : List ℕ → Next) (line : ℕ) (after : List ℕ) (command : Command) (len : ℕ) : Type 0 where
  pub from : line ≤ len
  pub inside : len ≤ line + length after
  pub next_is : (more : List ℕ) → next (after ++ more) ≡ Then (request_of command) (drop (len - line) after ++ more)

-- The line is the heading of an edit, and after it are at most the bytes of that, without the LF
-- that closes them.
abbrev pub IsOpen : Option Heading → (after : List ℕ) → Type 0
IsOpen (Some (heading.Edit start stop len)) after = length after ≤ len
IsOpen _ after = ⊥

-- What is at the front, by what the line says and the bytes after it.
abbrev pub IsFrontAfter : Option Heading → (line : ℕ) → (after : List ℕ) → Front → Type 0
IsFrontAfter heading line after Short = IsOpen heading after
IsFrontAfter heading line after Malformed = (more : List ℕ) → headed heading (after ++ more) ≡ Unknown
IsFrontAfter heading line after (Whole command len) = IsWholeAfter (headed heading) line after command len

-- A line of at most 80 bytes that no LF ends yet, or the heading of an edit whose bytes aren't all
-- there; by the place of the first LF.
abbrev pub IsBegun : Option ℕ → List ℕ → Type 0
IsBegun None bytes = length bytes ≤ 80
IsBegun (Some end) bytes = (end ≤ 80) × IsOpen (heading_of (words_of (take end bytes))) (drop (end + 1) bytes)

-- No command is whole, and one may be begun. So the bytes are at most those of the longest line,
-- its LF and the bytes of the longest edit.
pub record IsShort (bytes : List ℕ) : Type 0 where
  pub next : next_of bytes ≡ unfinished bytes
  pub begun : IsBegun (position (λ c. c == 10) bytes) bytes
  pub few : length bytes ≤ 80 + 1 + 2097152

-- A command is begun at the front of the bytes, or none can be there, or one is, whatever follows
-- them.
abbrev pub IsFront : List ℕ → Front → Type 0
IsFront bytes Short = IsShort bytes
IsFront bytes Malformed = (more : List ℕ) → next_of (bytes ++ more) ≡ Unknown
IsFront bytes (Whole command len) = IsWhole bytes command len
