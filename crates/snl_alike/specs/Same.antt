-- A text says after edits what it said.
use Rattle.std.specs.Prelude.{◌≡◌, ℕ, List, length, map, option_map}
use Rattle.snl_lex.specs.PieceList.{piece_ends, piece_kinds}
use Rattle.snl_items.specs.Items.{item_ends}
use Rattle.snl_kept.specs.declared.found.findings.Diagnostic.{Diagnostic}
use Rattle.snl_kept.specs.Diagnostics.{diagnostics_of}
use Rattle.snl_kept.specs.Tables.{tables_in}
use Rattle.snl_questions.specs.Mentions.{mentions_in}
use Rattle.snl_alike.specs.Edits.{Edit, Rise, moved_start, moved_stop, with_edits}
use Rattle.snl_alike.specs.Moved.{moved_file, moved_len, moved_tables}

-- A finding keeps its line and its code.
abbrev pub moved_diagnostic : List Edit → Diagnostic → Diagnostic
moved_diagnostic es d = record {
  offset = moved_start es d.offset;
  line = d.line;
  file = option_map (moved_file es) d.file;
  code = d.code;
  subject = moved_len es d.offset d.subject;
}

-- Each finding and each row of one text is in the other one, but for its places, and there are no
-- others.
pub record SameBut (text : List ℕ) (es : List Edit) (new : List ℕ) : Type 0 where
  pub found : diagnostics_of new ≡ map (moved_diagnostic es) (diagnostics_of text)
  pub tables : tables_in new ≡ moved_tables es (tables_in text)

-- The pieces are those of the text, each at its place, and the items are cut alike. Each token
-- means what it meant: it is told by its item and its number there, so no place of the text is in
-- this.
pub record AreAlike (text : List ℕ) (es : List Edit) (new : List ℕ) : Type 0 where
  pub kinds : piece_kinds new ≡ piece_kinds text
  pub ends : piece_ends new ≡ map (moved_stop es) (piece_ends text)
  pub items : item_ends new ≡ item_ends text
  pub meanings : mentions_in new ≡ mentions_in text
  pub same : SameBut text es new

-- The edits follow one another in the text, and it is so after them.
pub record SaysTheSame (text : List ℕ) (es : List Edit) : Type 0 where
  pub apart : Rise 0 (length text) es
  pub alike : AreAlike text es (with_edits text es)
