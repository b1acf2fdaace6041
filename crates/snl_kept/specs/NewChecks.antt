-- The checks that an edit makes, and the checks of all items with those in place.
use Rattle.std.specs.Prelude.{◌≡◌, ℕ, ◌+◌, ◌-◌, ◌&&◌, Bool, false, not, nat_lt, if◌then◌else◌, List, [], ◌∷◌, ◌++◌, length, map, take, drop, Option, None, Some, is_some, slice_set}
use Rattle.std.specs.List.{enumerate_from, flat_map}
use Rattle.snl_lex.specs.declared.piece.Class.{Class}
use Rattle.snl_grammar.specs.Outcome.{parsed_by, sound_tree}
use Rattle.snl_summary.specs.declared.summary.Outline.{Outline}
use Rattle.snl_summary.specs.declared.summary.Summary.{Summary}
use Rattle.snl_views.specs.SameView.{same_view}
use Rattle.snl_item_check.specs.declared.findings.Checked.{Checked}
use Rattle.snl_kept.specs.declared.ways.whole.recheck.KeptItems.{KeptItems}
use Rattle.snl_kept.specs.declared.plan.NewCheck.{NewCheck}
use Rattle.snl_kept.specs.Checks.{check_by, checks_of}
use Rattle.snl_kept.specs.Entries.{entry_by}

-- Which items are kept of so many: the first ones and the last ones, and between them these are
-- made.
abbrev pub kept_of : (count front : ℕ) → (made : List ℕ) → (back : ℕ) → KeptItems
kept_of count front made back = record { front = front; stop = front + length made; back = count - back }

-- The number that an item had before the edit, if it is kept.
abbrev pub number_before : KeptItems → ℕ → Option ℕ
number_before kept i =
    if nat_lt i kept.front then Some i
    else if nat_lt i kept.stop then None
    else Some ((i - kept.stop) + kept.back)

-- Whether an item is kept, with this number before, and sees what it saw.
abbrev pub sees_as_before : List Outline → Option ℕ → List Outline → ℕ → Summary → Bool
sees_as_before ss None ts i s = false
sees_as_before ss (Some j) ts i s = same_view ss j ts i s

-- Item i, spelled so, is checked anew.
abbrev pub is_rechecked : List Outline → List Outline → KeptItems → ℕ × List (Class × List ℕ) → Bool
is_rechecked ss ts kept (i, tokens) =
    is_some (sound_tree (parsed_by tokens)) && not (sees_as_before ss (number_before kept i) ts i (entry_by tokens).summary)

-- What the check of an item gives in which nothing is found.
abbrev pub clean_check : Checked
clean_check = record { faults = []; wake_uses = []; target_uses = [] }

-- A check of item i, if one is made.
abbrev pub made_at : ℕ → Option Checked → List NewCheck
made_at i None = []
made_at i (Some checked) = record { item = i; check = Some checked } ∷ []

abbrev pub made_for : List Outline → List Outline → KeptItems → ℕ × List (Class × List ℕ) → List NewCheck
made_for ss ts kept (i, tokens) = if is_rechecked ss ts kept (i, tokens) then made_at i (check_by ts i tokens) else []

-- The checks that are made of items that are spelled so.
abbrev pub made_checks : List Outline → List Outline → KeptItems → List (List (Class × List ℕ)) → List NewCheck
made_checks ss ts kept items = flat_map (made_for ss ts kept) (enumerate_from 0 items)

-- Checks, with those that are made in their places.
abbrev pub put : List (Option Checked) → List NewCheck → List (Option Checked)
put checks [] = checks
put checks (made ∷ rest) = put (slice_set checks made.item made.check) rest

-- A place for each of these, with no check.
abbrev pub no_check : ℕ → Option Checked
no_check n = None

abbrev pub nones : List ℕ → List (Option Checked)
nones ends = map no_check ends

-- The checks of the new text: so many old ones at the front, places for what is made, so many old
-- ones at the back, and in their places those that are made.
abbrev pub AreChecksMade : (old text : List ℕ) (front : ℕ) (vacant : List (Option Checked)) (back : ℕ) (made : List NewCheck) → Type 0
AreChecksMade old text front vacant back made =
    checks_of text ≡ put (take front (checks_of old) ++ (vacant ++ drop (length (checks_of old) - back) (checks_of old))) made
