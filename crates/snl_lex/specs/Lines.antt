-- Lines and files: what the line markers of a text say of an offset.
-- In: a text and an offset. Out: the line's number, and where its file's name is.
use Rattle.std.specs.Prelude.{ℕ, ◌+◌, ◌-◌, Bool, true, false, ◌&&◌, ◌||◌, ◌==◌, nat_lt, nat_le, List, [], ◌∷◌, length, take, drop, filter, count_by, slice_index, codes, Option, Some, None, is_some, unwrap_or, if◌then◌else◌}
use Rattle.std.specs.List.{list_any}
use Rattle.std.specs.Str.{bytes_eq}
use Rattle.snl_lex.specs.declared.alphabet.NumberBase.TheVariants.{Decimal}
use Rattle.snl_lex.specs.declared.piece.Class.{Class}
use Rattle.snl_lex.specs.declared.piece.Class.TheVariants.{Marker}
use Rattle.snl_lex.specs.declared.piece.Piece.{Piece}
use Rattle.snl_lex.specs.declared.lines.Line.{Line}
use Rattle.snl_lex.specs.Alphabet.{is_gap, is_white, is_digit}
use Rattle.snl_lex.specs.Runs.{run_of, run_by}
use Rattle.snl_lex.specs.Numbers.{value_after}
use Rattle.snl_lex.specs.Pieces.{string_joins, piece_end, bytes_at, pieces_of}

-- The bytes from one offset up to another.
abbrev pub part_of : List ℕ → ℕ → ℕ → List ℕ
part_of text from to = take (to - from) (drop from text)

-- How many line ends there are from one offset up to another.
abbrev pub lines_between : List ℕ → ℕ → ℕ → ℕ
lines_between text from to = count_by (λ b. b == 10) (part_of text from to)

-- A line ends there.
abbrev pub has_line_between : List ℕ → ℕ → ℕ → Bool
has_line_between text from to = list_any (λ b. b == 10) (part_of text from to)

-- Where the spaces and tabs end that begin at a place.
abbrev pub gap_end : List ℕ → ℕ → ℕ
gap_end bytes from = from + run_of is_gap (drop from bytes)

-- Where a marker's number begins: after `#` and spaces and tabs, and after `line` and spaces and
-- tabs, if that word is there.
unfoldable pub number_place : List ℕ → ℕ
number_place marker =
    let place = gap_end marker 1 in
    if bytes_eq (take 4 (drop place marker)) (codes "line") && is_gap (slice_index marker (place + 4)) then gap_end marker (place + 4) else place

-- How many digits a marker's number has.
abbrev pub digit_count : List ℕ → ℕ
digit_count marker = run_of is_digit (drop (number_place marker) marker)

-- Where a marker's number ends.
abbrev pub number_stop : List ℕ → ℕ
number_stop marker = number_place marker + digit_count marker

abbrev pub written_number : List ℕ → ℕ
written_number marker = value_after Decimal 0 (take (digit_count marker) (drop (number_place marker) marker))

-- The number that a marker sets: 1 to 10 digits, at most 2,147,483,647, with white space or nothing
-- after. None: the marker sets nothing.
unfoldable pub marker_number : List ℕ → Option ℕ
marker_number marker =
    if nat_lt 0 (digit_count marker)
    && nat_le (digit_count marker) 10
    && nat_le (written_number marker) 2147483647
    && (nat_le (length marker) (number_stop marker) || is_white (slice_index marker (number_stop marker)))
    then Some (written_number marker)
    else None

-- Where in a marker its file is, and how many bytes it has: between quotes, after the number and
-- spaces and tabs. A backslash takes a quote.
unfoldable pub marker_file : List ℕ → Option (ℕ × ℕ)
marker_file marker =
    let quote = gap_end marker (number_stop marker) in
    let count = run_by (string_joins 34) [] (drop 1 (drop quote marker)) in
    if slice_index marker quote == 34 && slice_index marker (quote + 1 + count) == 34 then Some (quote + 1, count) else None

abbrev pub is_marker : Class → Bool
is_marker Marker = true
is_marker _ = false

-- The piece is a marker that sets the line of the offset: a line ends at or after the marker's end
-- and before the offset.
unfoldable pub sets_line : List ℕ → ℕ → Piece → Bool
sets_line text offset p = is_marker p.kind && is_some (marker_number (bytes_at text p)) && has_line_between text (piece_end p) offset

-- The same, and it names a file.
unfoldable pub names_file : List ℕ → ℕ → Piece → Bool
names_file text offset p = sets_line text offset p && is_some (marker_file (bytes_at text p))

-- The last of a list, if it has one.
abbrev pub last_or : {X : Type 0} → Option X → List X → Option X
last_or found [] = found
last_or found (x ∷ xs) = last_or (Some x) xs

abbrev pub last_of : {X : Type 0} → List X → Option X
last_of xs = last_or None xs

-- The last piece that passes the test.
abbrev pub last_that : (Piece → Bool) → List Piece → Option Piece
last_that passes pieces = last_of (filter passes pieces)

-- The line by the last marker that counts: the marker's number is that of the line after it.
-- Without one, 1 and the line ends before the offset.
abbrev pub number_by : List ℕ → ℕ → Option Piece → ℕ
number_by text offset None = 1 + lines_between text 0 offset
number_by text offset (Some p) = (unwrap_or (marker_number (bytes_at text p)) 0 + lines_between text (piece_end p) offset) - 1

-- The number of an offset's line.
abbrev pub line_number_of : List ℕ → ℕ → ℕ
line_number_of text offset = number_by text offset (last_that (sets_line text offset) (pieces_of text))

-- A place in a marker, as one in the text.
abbrev pub place_from : ℕ → Option (ℕ × ℕ) → Option (ℕ × ℕ)
place_from start None = None
place_from start (Some place) = Some (start + place.0, place.1)

-- Where the file is that a marker names.
abbrev pub file_by : List ℕ → Option Piece → Option (ℕ × ℕ)
file_by text None = None
file_by text (Some p) = place_from p.start (marker_file (bytes_at text p))

-- The file of an offset: that of the last marker with a file among those that count for it.
abbrev pub file_of : List ℕ → ℕ → Option (ℕ × ℕ)
file_of text offset = file_by text (last_that (names_file text offset) (pieces_of text))

-- The line and file of an offset.
unfoldable pub line_at : List ℕ → ℕ → Line
line_at text offset = record { number = line_number_of text offset; file = file_of text offset }
