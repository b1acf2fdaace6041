-- Which items of a text an edit makes to be checked: those that are sound, and are fresh or see the
-- others in another way.
use Rattle.std.specs.Prelude.{ℕ, ◌+◌, ◌-◌, ◌&&◌, ◌||◌, Bool, not, nat_eq, nat_lt, if◌then◌else◌, List, length, count_by, get_or, is_some}
use Rattle.std.specs.List.{enumerate_from, list_any}
use Rattle.snl_cut.specs.Cut.{ends_below}
use Rattle.snl_grammar.specs.Outcome.{sound_tree}
use Rattle.snl_items.specs.Fresh.{fresh_items_of, token_edit_of}
use Rattle.snl_lex.specs.Edit.{Edit, splice}
use Rattle.snl_items.specs.Items.{item_ends}
use Rattle.snl_views.specs.SameView.{same_view}
use Rattle.snl_kept.specs.declared.entries.Entry.{Entry}
use Rattle.snl_kept.specs.Checks.{outlines_in}
use Rattle.snl_kept.specs.Entries.{entries_of}

-- Item i, which ends at the end with its number, is fresh if that is a fresh end.
abbrev pub is_fresh : (ends fresh : List ℕ) → ℕ → Bool
is_fresh ends fresh i = list_any (nat_eq (get_or ends i 0)) fresh

-- The number that a kept item had: the same, if it is one of so many before the edit; else the same
-- counted from the end.
abbrev pub old_number : (before old_count count : ℕ) → ℕ → ℕ
old_number before old_count count i = if nat_lt i before then i else (i + old_count) - count

-- Item i of the new text sees of the others what it saw in the old one, if it is kept.
abbrev pub sees_the_same : (old text : List ℕ) → (before i : ℕ) → Entry → Bool
sees_the_same old text before i entry =
    same_view (outlines_in old) (old_number before (length (item_ends old)) (length (item_ends text)) i) (outlines_in text) i entry.summary

abbrev pub is_stirred : (old text : List ℕ) → (before : ℕ) → (fresh : List ℕ) → ℕ × Entry → Bool
is_stirred old text before fresh (i, entry) =
    is_some (sound_tree entry.parsed) && (is_fresh (item_ends text) fresh i || not (sees_the_same old text before i entry))

-- How many items of the new text are stirred.
unfoldable pub stirred_of : Edit → ℕ
stirred_of edit =
    let before = ends_below (token_edit_of edit).start (item_ends edit.old) in
    count_by (is_stirred edit.old edit.text before (fresh_items_of edit)) (enumerate_from 0 (entries_of edit.text))

-- The same of an edit of one text, which puts other bytes in the place of those from `start` up to
-- `stop`.
abbrev pub stirred : (text : List ℕ) (start stop : ℕ) (new : List ℕ) → ℕ
stirred text start stop new = stirred_of (splice text start stop new)
