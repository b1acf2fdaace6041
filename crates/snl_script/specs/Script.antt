-- The commands of a script, as they are in its bytes.
use Rattle.std.specs.Prelude.{ℕ, ◌+◌, ◌==◌, ◌&&◌, List, [], ◌∷◌, length, take, drop, Bool, Option, Some, None, nat_le, if◌then◌else◌, codes, position}
use Rattle.std.specs.Char.{is_ascii_digit}
use Rattle.std.specs.List.{list_all, slice_split}
use Rattle.std.specs.Str.{bytes_eq}
use Rattle.std.specs.Str.Parse.{digits_value}
use Rattle.snl_script.specs.declared.script.Heading.{Heading}
use Rattle.snl_script.specs.declared.script.Heading.TheVariants.{Check, List as Listing, Work, Edit}

-- A command, with the bytes that an edit puts in.
pub data Request : Type 0 where
  Checks : Request
  Lists : Request
  Works : Request
  Edits : (start stop : ℕ) (new : List ℕ) → Request

-- What the bytes of a script begin with: there are none, or no well-formed command is whole at
-- their front, or a command and what is after it.
pub data Next : Type 0 where
  Ends : Next
  Unknown : Next
  Then : (request : Request) (rest : List ℕ) → Next

-- A line's words, which single spaces part: where two spaces meet, or one begins or ends the line,
-- a word is empty.
abbrev pub words_of : List ℕ → List (List ℕ)
words_of line = slice_split (λ b. b == 32) line

-- 1 to 19 decimal digits.
abbrev pub is_number : List ℕ → Bool
is_number word = nat_le 1 (length word) && nat_le (length word) 19 && list_all is_ascii_digit word

-- The value of a number, leading zeros allowed.
abbrev pub number_of : List ℕ → Option ℕ
number_of word = if is_number word then Some (digits_value 10 word) else None

-- An edit puts in at most 2,097,152 bytes.
abbrev pub edit_with : (start stop len : Option ℕ) → Option Heading
edit_with (Some start) (Some stop) (Some len) = if nat_le len 2097152 then Some (Edit start stop len) else None
edit_with start stop len = None

-- `edit START END LEN`, by the words after the first.
abbrev pub edit_of : List (List ℕ) → Option Heading
edit_of (start ∷ stop ∷ len ∷ []) = edit_with (number_of start) (number_of stop) (number_of len)
edit_of words = None

-- A command that has no word after the first.
abbrev pub lone : Heading → List (List ℕ) → Option Heading
lone heading [] = Some heading
lone heading words = None

-- What a command's line says.
abbrev pub heading_of : List (List ℕ) → Option Heading
heading_of [] = None
heading_of (word ∷ words) =
    if bytes_eq word (codes "check") then lone Check words
    else if bytes_eq word (codes "list") then lone Listing words
    else if bytes_eq word (codes "work") then lone Work words
    else if bytes_eq word (codes "edit") then edit_of words
    else None

-- After the bytes of an edit there is an LF.
abbrev pub closed : Request → List ℕ → Next
closed request [] = Unknown
closed request (b ∷ rest) = if b == 10 then Then request rest else Unknown

-- The command of a line, and what is after it.
abbrev pub headed : Option Heading → List ℕ → Next
headed None after = Unknown
headed (Some Check) after = Then Checks after
headed (Some Listing) after = Then Lists after
headed (Some Work) after = Then Works after
headed (Some (Edit start stop len)) after = closed (Edits start stop (take len after)) (drop len after)

-- A command's line has at most 80 bytes without its LF.
abbrev pub lined : Option ℕ → List ℕ → Next
lined None bytes = Unknown
lined (Some end) bytes = if nat_le end 80 then headed (heading_of (words_of (take end bytes))) (drop (end + 1) bytes) else Unknown

-- What the bytes of a script begin with.
abbrev pub next_of : List ℕ → Next
next_of [] = Ends
next_of (b ∷ bytes) = lined (position (λ c. c == 10) (b ∷ bytes)) (b ∷ bytes)
