-- The pieces of a text, and its tokens.
-- In: a text, as the list of its bytes. Out: the class and length of its first piece; all pieces
-- from the left; those that are tokens.
use Rattle.std.specs.Prelude.{ℕ, zero, suc, ◌+◌, ◌-◌, ◌≤◌, Bool, true, false, not, ◌||◌, ◌==◌, nat_lt, List, [], ◌∷◌, length, take, drop, filter, slice_index, IsTrue, Option, Some, None, if◌then◌else◌}
use Rattle.std.specs.List.{list_all}
use Rattle.snl_lex.specs.declared.piece.Class.{Class}
use Rattle.snl_lex.specs.declared.piece.Class.TheVariants.{White, Comment, Marker, CCode, Name, Word, Int, Float, Text, CharLit, Punct, Bad}
use Rattle.snl_lex.specs.declared.piece.Piece.{Piece}
use Rattle.snl_lex.specs.declared.alphabet.Start.{Start}
use Rattle.snl_lex.specs.declared.alphabet.Start.TheVariants.{Blank, Letter, Digit, Dot, Hash, Slash, Percent, Quote, Apostrophe, Sign, Stray}
use Rattle.snl_lex.specs.Alphabet.{is_white, is_digit, is_word_byte, is_in_line, is_stray, start_of}
use Rattle.snl_lex.specs.Runs.{run_of, run_by, close_of}
use Rattle.snl_lex.specs.Kinds.{has, is_word, punctuators_of_2, punctuators_of_3}
use Rattle.snl_lex.specs.Numbers.{number_joins, number_class, is_number_byte}

-- The first byte, and the run of bytes after it that pass the test.
abbrev pub run_piece : Class → (ℕ → Bool) → List ℕ → Class × ℕ
run_piece kind passes u = (kind, 1 + run_of passes (drop 1 u))

-- The longest run of letters, digits and `_`: a word, or a name.
abbrev pub name_piece : List ℕ → Class × ℕ
name_piece u =
    let count = 1 + run_of is_word_byte (drop 1 u) in
    (if is_word (take count u) then Word else Name, count)

-- A number run, whose bytes tell the class.
abbrev pub number_piece : List ℕ → Class × ℕ
number_piece u =
    let count = 1 + run_by number_joins (take 1 u) (drop 1 u) in
    (number_class (take count u), count)

-- What ends with a closing pair has two bytes and those up to the pair; without one it is the whole
-- rest, which is faulty.
abbrev pub closed_by : Class → ℕ → Option ℕ → Class × ℕ
closed_by kind total None = (Bad, total)
closed_by kind total (Some count) = (kind, 2 + count)

-- The two bytes at the front, and all up to the first `a b` after them.
abbrev pub closed_piece : Class → ℕ → ℕ → List ℕ → Class × ℕ
closed_piece kind a b u = closed_by kind (length u) (close_of a b (drop 2 u))

-- A backslash takes the byte after it; a backslash that is taken doesn't. (The last byte comes
-- first in the list.)
abbrev pub is_taken : List ℕ → Bool
is_taken [] = false
is_taken (b ∷ before) = if b == 92 then not (is_taken before) else false

-- A string goes on up to its quote or an LF, but for those that a backslash takes.
abbrev pub string_joins : ℕ → List ℕ → ℕ → Bool
string_joins quote before b = is_taken before || not (b == quote || b == 10)

-- The quote at the front, and all up to the quote that closes it; without one all before the LF or
-- the end, which is faulty.
abbrev pub string_piece : Class → ℕ → List ℕ → Class × ℕ
string_piece kind quote u =
    let count = 1 + run_by (string_joins quote) [] (drop 1 u) in
    if slice_index u count == quote then (kind, 1 + count) else (Bad, count)

-- The longest of the punctuators: three bytes, two, or the first byte, which is a punctuator. (A byte that
-- isn't there counts as 0, which is in no punctuator.)
unfoldable pub longest_punctuator : List ℕ → ℕ
longest_punctuator u =
    let a = slice_index u 0 in
    let b = slice_index u 1 in
    let c = slice_index u 2 in
    if has punctuators_of_3 (a ∷ b ∷ c ∷ []) then 3 else (if has punctuators_of_2 (a ∷ b ∷ []) then 2 else 1)

abbrev pub punctuator_piece : List ℕ → Class × ℕ
punctuator_piece u = (Punct, longest_punctuator u)

-- A slash: a comment, or a punctuator.
abbrev pub slash_piece : List ℕ → Class × ℕ
slash_piece u =
    if slice_index u 1 == 47 then run_piece Comment is_in_line u
    else if slice_index u 1 == 42 then closed_piece Comment 42 47 u
    else punctuator_piece u

-- A percent sign: embedded C, or a punctuator.
abbrev pub percent_piece : List ℕ → Class × ℕ
percent_piece u =
    if slice_index u 1 == 37 then run_piece CCode is_in_line u
    else if slice_index u 1 == 123 then closed_piece CCode 125 37 u
    else punctuator_piece u

-- A dot: a number, if a digit follows it, or a punctuator.
abbrev pub dot_piece : List ℕ → Class × ℕ
dot_piece u = if is_digit (slice_index u 1) then number_piece u else punctuator_piece u

-- The class and length of the first piece, by what it begins with.
abbrev pub piece_by : Start → List ℕ → Class × ℕ
piece_by Blank u = run_piece White is_white u
piece_by Letter u = name_piece u
piece_by Digit u = number_piece u
piece_by Dot u = dot_piece u
piece_by Hash u = run_piece Marker is_in_line u
piece_by Slash u = slash_piece u
piece_by Percent u = percent_piece u
piece_by Quote u = string_piece Text 34 u
piece_by Apostrophe u = string_piece CharLit 39 u
piece_by Sign u = punctuator_piece u
piece_by Stray u = run_piece Bad is_stray u

-- The class and length of the first piece of a text that isn't empty.
unfoldable pub first_piece : List ℕ → Class × ℕ
first_piece u = piece_by (start_of (slice_index u 0)) u

abbrev pub piece_length : List ℕ → ℕ
piece_length u = (first_piece u).1

abbrev pub piece_class : List ℕ → Class
piece_class u = (first_piece u).0

-- The piece that begins at an offset of the text.
unfoldable pub piece_at : List ℕ → ℕ → Piece
piece_at text at = record { kind = (first_piece (drop at text)).0; start = at; len = piece_length (drop at text) }

-- The pieces from an offset on, at most so many.
abbrev pub pieces_from : List ℕ → ℕ → ℕ → List Piece
pieces_from text at zero = []
pieces_from text at (suc most) =
    if nat_lt at (length text) then piece_at text at ∷ pieces_from text (at + piece_length (drop at text)) most else []

-- The pieces of a text, cut from the left: a text has no more pieces than bytes.
unfoldable pub pieces_of : List ℕ → List Piece
pieces_of text = pieces_from text 0 (length text)

-- The pieces that end one after another at these places.
abbrev pub pieces_along : List ℕ → ℕ → List ℕ → List Piece
pieces_along text from [] = []
pieces_along text from (e ∷ ends) = piece_at text from ∷ pieces_along text e ends

-- Where a piece ends.
abbrev pub piece_end : Piece → ℕ
piece_end p = p.start + p.len

-- A piece has a byte at least, and ends in the text.
abbrev pub LiesIn : List ℕ → Piece → Type 0
LiesIn text p = (1 ≤ p.len) × (piece_end p ≤ length text)

-- White space, comments and line markers are no tokens.
abbrev pub is_token : Piece → Bool
is_token p = elim p.kind [ White ↦ false | Comment ↦ false | Marker ↦ false | _ ↦ true ]

-- The tokens of a text, as pieces.
abbrev pub tokens_of : List ℕ → List Piece
tokens_of text = filter is_token (pieces_of text)

-- The bytes of a piece of the text.
abbrev pub bytes_at : List ℕ → Piece → List ℕ
bytes_at text p = take p.len (drop p.start text)

-- A byte that a piece of the class may have: comments, C code, strings, punctuators and faulty pieces may
-- have any.
abbrev pub class_byte : Class → ℕ → Bool
class_byte White b = is_white b
class_byte Name b = is_word_byte b
class_byte Word b = is_word_byte b
class_byte Int b = is_number_byte b
class_byte Float b = is_number_byte b
class_byte Marker b = is_in_line b
class_byte _ b = true

-- The piece has bytes of its class alone.
abbrev pub HasOwnBytes : List ℕ → Piece → Type 0
HasOwnBytes text p = IsTrue (list_all (class_byte p.kind) (bytes_at text p))

-- A piece, moved as the bytes from `old_stop` on are moved to `new_stop`.
abbrev pub moved_piece : ℕ → ℕ → Piece → Piece
moved_piece old_stop new_stop p = record { kind = p.kind; start = (p.start - old_stop) + new_stop; len = p.len }
