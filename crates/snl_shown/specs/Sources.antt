-- A text with what is kept of it, from which places and tokens are told.
use Rattle.std.specs.Prelude.{◌≡◌, ◌≤◌, length, take}
use Rattle.snl_lex.specs.LineList.{line_ends}
use Rattle.snl_lex.specs.PieceList.{piece_ends, piece_kinds}
use Rattle.snl_place.specs.Places.{place_in}
use Rattle.snl_session.specs.Edit.{limit}
use Rattle.snl_shown.specs.declared.source.Mark.{Mark}
use Rattle.snl_shown.specs.declared.source.Source.{Source}

pub record IsSource (s : Source) : Type 0 where
  pub small : length s.text.now ≤ limit
  pub lines : s.ends.now ≡ line_ends s.text.now
  pub ends : s.pieces.now.ends.items ≡ piece_ends s.text.now
  pub kinds : s.pieces.now.kinds.items ≡ piece_kinds s.text.now

-- An offset of the text, with its place.
pub record IsMark (s : Source) (mark : Mark) : Type 0 where
  pub inside : mark.offset ≤ length s.text.now
  pub place : mark.place ≡ place_in s.encoding (take mark.offset s.text.now)
