-- The items that an edit keeps.
use Rattle.std.specs.Prelude.{ℕ, length}
use Rattle.snl_cut.specs.Cut.{ends_below}
use Rattle.snl_lex.specs.Edit.{Edit}
use Rattle.snl_items.specs.Fresh.{token_edit_of}
use Rattle.snl_items.specs.Items.{item_ends}
use Rattle.snl_kept.specs.Stirred.{old_number}

-- The number that a kept item is said to have had, by its number in the new text.
abbrev pub number_before : Edit → ℕ → ℕ
number_before e i =
    old_number (ends_below (token_edit_of e).start (item_ends e.old)) (length (item_ends e.old)) (length (item_ends e.text)) i
