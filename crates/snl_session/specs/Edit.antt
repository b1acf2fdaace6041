-- An edit of a text by a range of bytes: when it is refused, and the text that it gives.
use Rattle.std.specs.Prelude.{ℕ, ◌+◌, ◌-◌, ◌||◌, nat_lt, if◌then◌else◌, List, length, Option, Some, None}
pub use Rattle.snl_lex.specs.Edit.{spliced}
use Rattle.snl_session.specs.declared.edits.Refused.{Refused}
use Rattle.snl_session.specs.declared.edits.Refused.TheVariants.{Range, Size}

-- The number of bytes that a text has at most.
abbrev pub limit : ℕ
limit = 1048576

-- Why an edit of this range that adds so many bytes is refused, but for want of memory: the range
-- is tested first, then the size of the new text.
abbrev pub refusal_of : (text : List ℕ) (start stop added : ℕ) → Option Refused
refusal_of text start stop added =
    if nat_lt stop start || nat_lt (length text) stop then Some Range
    else if nat_lt limit (length text - (stop - start) + added) then Some Size
    else None
