-- The messages of the protocol in bytes: the lines of a header, an empty one, and a body.
use Rattle.std.specs.Prelude.{ℕ, zero, suc, ◌+◌, ◌-◌, ◌==◌, ◌&&◌, List, [], ◌∷◌, length, take, drop, Bool, Option, Some, None, nat_le, if◌then◌else◌, codes, position, slice_get}
use Rattle.std.specs.Char.{is_ascii_digit}
use Rattle.std.specs.List.{list_all}
use Rattle.std.specs.Str.{str_eq_ignore_ascii_case}
use Rattle.std.specs.Str.Parse.{digits_value}

-- The limits: how many lines a header has at most, the empty one included; how many bytes a line
-- has without its LF, and a body; how many digits a number has.
abbrev pub most_lines : ℕ
most_lines = 8

abbrev pub longest_line : ℕ
longest_line = 256

abbrev pub longest_body : ℕ
longest_body = 67108864

abbrev pub most_digits : ℕ
most_digits = 19

-- What is at the front of bytes: a message that isn't all there; or no message, whatever follows;
-- or a header that gives no length, and what is after it; or the body of a message, and what is
-- after it.
pub data AtFront : Type 0 where
  Unfinished : AtFront
  NoMessage : AtFront
  NoLength : (rest : List ℕ) → AtFront
  Message : (body rest : List ℕ) → AtFront

abbrev pub without_return_by : (last : Option ℕ) → List ℕ → List ℕ
without_return_by None line = line
without_return_by (Some last) line = if last == 13 then take (length line - 1) line else line

-- A line without the CR at its end.
abbrev pub without_return : List ℕ → List ℕ
without_return line = without_return_by (slice_get line (length line - 1)) line

-- Decimal digits, at least one.
abbrev pub is_number : List ℕ → Bool
is_number word =
    nat_le 1 (length word) && nat_le (length word) most_digits && list_all is_ascii_digit word

-- The value of a number, leading zeros allowed.
abbrev pub number_of : List ℕ → Option ℕ
number_of word = if is_number word then Some (digits_value 10 word) else None

-- `Content-Length: N`, in letters of any case.
abbrev pub content_length : List ℕ → Option ℕ
content_length line =
    if str_eq_ignore_ascii_case (take 16 line) (codes "content-length: ")
    then number_of (drop 16 line)
    else None

abbrev pub given_or : (given before : Option ℕ) → Option ℕ
given_or None before = before
given_or (Some given) before = Some given

-- The last length that is given counts. Other lines say nothing.
abbrev pub length_after : (before : Option ℕ) → (line : List ℕ) → Option ℕ
length_after before line = given_or (content_length line) before

-- A body of this length, if all of it is there.
abbrev pub with_body : ℕ → (after : List ℕ) → AtFront
with_body n after =
    if nat_le n (length after) then Message (take n after) (drop n after) else Unfinished

-- After the empty line.
abbrev pub after_header : (body_length : Option ℕ) → (after : List ℕ) → AtFront
after_header None after = NoLength after
after_header (Some n) after = if nat_le n longest_body then with_body n after else NoMessage

-- An empty line ends the header. After another one `next` tells the rest.
abbrev pub after_line : (next : Option ℕ → List ℕ → AtFront) →
    (before : Option ℕ) → (line after : List ℕ) → AtFront
after_line next before [] after = after_header before after
after_line next before (b ∷ line) after = next (length_after before (b ∷ line)) after

-- By the place of the first LF.
abbrev pub by_line_end : (next : Option ℕ → List ℕ → AtFront) →
    (before : Option ℕ) → (end : Option ℕ) → List ℕ → AtFront
by_line_end next before None bytes =
    if nat_le (length bytes) longest_line then Unfinished else NoMessage
by_line_end next before (Some end) bytes =
    if nat_le end longest_line
    then after_line next before (without_return (take end bytes)) (drop (end + 1) bytes)
    else NoMessage

-- In the rest of a header, of which so many lines may come, after those that gave this length.
unfoldable pub in_header : (lines : ℕ) → (before : Option ℕ) → List ℕ → AtFront
in_header zero before bytes = NoMessage
in_header (suc lines) before bytes =
    by_line_end (in_header lines) before (position (λ b. b == 10) bytes) bytes

-- What is at the front of bytes.
abbrev pub at_front : List ℕ → AtFront
at_front bytes = in_header most_lines None bytes
