-- The lines of a text as lists: its line ends, and the markers that set a line.
use Rattle.std.specs.Prelude.{◌≡◌, ℕ, suc, ◌+◌, ◌-◌, ◌^◌, ◌<◌, ◌==◌, ◌&&◌, Bool, is_some, List, [], ◌∷◌, ◌++◌, take, drop, map, filter, nat_lt, count_by, slice_index, Option, Some, None, IfSome, unwrap_or, if◌then◌else◌}
use Rattle.std.specs.Option.{option_map}
use Rattle.snl_lex.specs.declared.line_list.LineList.{LineList}
use Rattle.snl_lex.specs.declared.marker_list.Marker.{Marker}
use Rattle.snl_lex.specs.declared.piece.Piece.{Piece}
use Rattle.snl_lex.specs.Lines.{file_by, is_marker, last_of, marker_file, marker_number, part_of}
use Rattle.snl_lex.specs.Pieces.{bytes_at, piece_end, pieces_of}

-- Where the line ends (LF) are among bytes of which the first one is at a place.
abbrev pub line_ends_from : ℕ → List ℕ → List ℕ
line_ends_from at [] = []
line_ends_from at (b ∷ bs) = if b == 10 then at ∷ line_ends_from (suc at) bs else line_ends_from (suc at) bs

-- The numbers of the bytes that are an LF, rising.
abbrev pub line_ends : List ℕ → List ℕ
line_ends text = line_ends_from 0 text

-- Those from one offset up to another.
abbrev pub line_ends_in : List ℕ → ℕ → ℕ → List ℕ
line_ends_in text from to = line_ends_from from (part_of text from to)

-- The piece is a marker that sets a line, wherever the offset is.
abbrev pub numbers : List ℕ → Piece → Bool
numbers text p = is_marker p.kind && is_some (marker_number (bytes_at text p))

-- The same, and it names a file.
abbrev pub names : List ℕ → Piece → Bool
names text p = numbers text p && is_some (marker_file (bytes_at text p))

-- A marker: where it ends, the number that it sets, and where the file is that it names.
abbrev pub marker_of : List ℕ → Piece → Marker
marker_of text p = record { end = piece_end p; number = unwrap_or (marker_number (bytes_at text p)) 0; file = file_by text (Some p) }

-- The pieces that pass the test, as markers.
abbrev pub marked : (Piece → Bool) → List ℕ → List Piece → List Marker
marked passes text pieces = map (marker_of text) (filter passes pieces)

-- The markers of a text that set a line, and those of them that name a file.
abbrev pub setting_markers : List ℕ → List Marker
setting_markers text = marked (numbers text) text (pieces_of text)

abbrev pub naming_markers : List ℕ → List Marker
naming_markers text = marked (names text) text (pieces_of text)

-- The lists are those of the text's lines.
pub record IsLineList (text : List ℕ) (lines : LineList) : Type 0 where
  pub at_ends : lines.ends.items ≡ line_ends text
  pub at_markers : lines.markers.items ≡ setting_markers text
  pub at_naming : lines.naming.items ≡ naming_markers text

-- The lists are those of a part of the text, which these pieces are.
pub record IsLinePart (text : List ℕ) (from to : ℕ) (pieces : List Piece) (lines : LineList) : Type 0 where
  pub at_ends : lines.ends.items ≡ line_ends_in text from to
  pub at_markers : lines.markers.items ≡ marked (numbers text) text pieces
  pub at_naming : lines.naming.items ≡ marked (names text) text pieces

-- Where the line begins before which so many lines end.
abbrev pub line_begin : List ℕ → ℕ → ℕ
line_begin ends count = if count == 0 then 0 else slice_index ends (count - 1) + 1

-- How many lines end before a place.
abbrev pub ends_before : List ℕ → ℕ → ℕ
ends_before ends place = count_by (λ e. nat_lt e place) ends

-- The number of an offset's line by the last marker that counts, and so many line ends before it.
abbrev pub number_after : List ℕ → ℕ → Option Marker → ℕ
number_after ends count None = 1 + count
number_after ends count (Some m) = (m.number + (count - ends_before ends m.end)) - 1

-- The last marker that ends before a place.
abbrev pub last_before : ℕ → List Marker → Option Marker
last_before place markers = last_of (filter (λ m. nat_lt m.end place) markers)

-- A marker, moved as the bytes from `old_stop` on are moved to `new_stop`.
abbrev pub moved_marker : ℕ → ℕ → Marker → Marker
moved_marker old_stop new_stop m =
    record { end = (m.end - old_stop) + new_stop; number = m.number; file = option_map (λ f. ((f.0 - old_stop) + new_stop, f.1)) m.file }

-- Other markers in the place of those that end from `start` up to `kept_from`, and those after
-- moved.
abbrev pub replaced_markers : ℕ → ℕ → List Marker → ℕ → ℕ → List Marker → List Marker
replaced_markers start kept_from made old_stop new_stop ms =
    take (count_by (λ m. nat_lt m.end start) ms) ms ++ (made ++ map (moved_marker old_stop new_stop) (drop (count_by (λ m. nat_lt m.end (kept_from + 1)) ms) ms))

-- A marker's places have four bytes.
abbrev pub IsShort : Marker → Type 0
IsShort m = (m.end < 2 ^ 32) × IfSome m.file (λ f. f.0 < 2 ^ 32)
