-- Whether the warnings of a text are shown.
use Rattle.std.specs.Prelude.{ℕ, Bool, true, List, [], ◌∷◌, Option, Some, None}
use Rattle.std.specs.List.{enumerate_from, filter_map}
use Rattle.snl_lex.specs.declared.piece.Piece.{Piece}
use Rattle.snl_grammar.specs.declared.tree.item.Item.{Item}
use Rattle.snl_summary.specs.declared.summary.Outline.{Outline}
use Rattle.snl_summary.specs.Summaries.Tokens.{token_bytes}
use Rattle.snl_item_check.specs.Options.{warning_setting}
use Rattle.snl_item_check.specs.View.{is_in_set}
use Rattle.snl_kept.specs.Linked.{outlines_of}
use Rattle.snl_kept.specs.Program.{ProgramItem, items_of}

-- What item i says of warnings. A faulty item has no tree, and says nothing.
abbrev pub setting_in : List ℕ → List Outline → ℕ → List Piece → Option Item → Option Bool
setting_in text ss i tokens None = None
setting_in text ss i tokens (Some tree) = warning_setting (token_bytes text tokens) (is_in_set ss i) tree

abbrev pub setting_of_item : List ℕ → List Outline → ℕ × ProgramItem → Option Bool
setting_of_item text ss (i, x) = setting_in text ss i x.tokens x.tree

-- What the items say of warnings, in the order of the text.
abbrev pub warning_settings : List ℕ → List ProgramItem → List Bool
warning_settings text xs = filter_map (setting_of_item text (outlines_of text xs)) (enumerate_from 0 xs)

-- The last of the settings, or what holds without any.
abbrev pub last_or : Bool → List Bool → Bool
last_or default [] = default
last_or default (setting ∷ settings) = last_or setting settings

-- Warnings are shown, unless the last setting of them says that they are off.
abbrev pub shows_warnings : List ℕ → List ProgramItem → Bool
shows_warnings text xs = last_or true (warning_settings text xs)

abbrev pub warns_in : List ℕ → Bool
warns_in text = shows_warnings text (items_of text)
