-- What the answers to commands go by: a text, and what the edit cost that made it.
use Rattle.std.specs.Prelude.{ℕ, List, [], length}
use Rattle.snl_items.specs.Fresh.{fresh_items, fresh_pieces}
use Rattle.snl_kept.specs.declared.work.Work.{Work}
use Rattle.snl_session.specs.Edit.{spliced}
use Rattle.snl_kept.specs.Stirred.{stirred}

-- What an edit of a text costs: how many pieces of the new text are fresh, how many items are, and
-- how many items it makes to be checked.
unfoldable pub work_of : (text : List ℕ) (start stop : ℕ) (new : List ℕ) → Work
work_of text start stop new = record {
  lexed = fresh_pieces text start stop new;
  parsed = length (fresh_items text start stop new);
  checked = stirred text start stop new;
}

-- A version of a text: its bytes, and what the edit cost that made it.
pub record Version : Type 0 where
  pub text : List ℕ
  pub work : Work

-- The version that an edit makes of a text.
abbrev pub next_version : (text : List ℕ) (start stop : ℕ) (new : List ℕ) → Version
next_version text start stop new = record { text = spliced text start stop new; work = work_of text start stop new }

-- The first version: an edit of the empty text puts the source in.
abbrev pub first_version : (source : List ℕ) → Version
first_version source = record { text = source; work = work_of [] 0 0 source }
