-- The items of a text as a session keeps them: what is kept of an item goes by the spelling of its
-- tokens alone.
use Rattle.std.specs.Prelude.{◌≡◌, ℕ, All, List, map}
use Rattle.snl_lex.specs.declared.piece.Class.{Class}
use Rattle.snl_items.specs.Items.{spelled_items}
use Rattle.snl_lex.specs.PieceList.{spelled}
use Rattle.snl_lex.specs.Pieces.{LiesIn}
use Rattle.snl_summary.specs.SpelledTokens.{summary_by}
use Rattle.snl_grammar.specs.Outcome.{parsed_by, sound_tree}
use Rattle.snl_kept.specs.declared.entries.CommonEntry.{CommonEntry}
use Rattle.snl_kept.specs.declared.entries.Entry.{Entry}

abbrev pub entry_by : List (Class × List ℕ) → Entry
entry_by tokens = record { parsed = parsed_by tokens; summary = summary_by tokens (sound_tree (parsed_by tokens)) }

-- What is kept of each item of a text.
abbrev pub entries_of : List ℕ → List Entry
entries_of text = map entry_by (spelled_items text)

-- An entry that others share is that of its item, the tokens of which are in a text.
pub record IsCommon (text : List ℕ) (common : CommonEntry) : Type 0 where
  pub within : All (LiesIn text) common.own.items
  pub entry : common.entry ≡ entry_by (spelled text common.own.items)
