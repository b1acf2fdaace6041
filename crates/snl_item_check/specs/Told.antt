-- What the check of an item tells the tables: the uses of names in its conditions, and the names of
-- the states that it leads to.
use Rattle.std.specs.Prelude.{ℕ, List, [], map, slice_get, Option, None, Some}
use Rattle.std.specs.Option.{option_map_or}
use denote.Ref.{Bor}
use Rattle.snl_grammar.specs.declared.tree.item.Item.{Item}
use Rattle.snl_walk.specs.declared.used.TargetUse.{TargetUse}
use Rattle.snl_walk.specs.declared.used.WakeUse.{WakeUse}
use Rattle.snl_walk.specs.Items.{occurrences}
use Rattle.snl_walk.specs.Tokens.{token_bytes}
use Rattle.snl_walk.specs.Uses as uses
use Rattle.snl_item_check.specs.declared.findings.Checked.{Checked}
use Rattle.snl_item_check.specs.Items.{ProgramItem}

-- In the order of the text, each use with its subscript: what can wake a state. Only a state has
-- conditions.
abbrev pub wake_uses : (ℕ → List ℕ) → Item → List WakeUse
wake_uses bytes tree = uses.wake_uses bytes (occurrences bytes tree)

-- In the order of the text. Only a state leads to states.
abbrev pub target_uses : (ℕ → List ℕ) → Item → List TargetUse
target_uses bytes tree = uses.target_uses (occurrences bytes tree)

pub record Told : Type 0 where
  pub wake_uses : List WakeUse
  pub target_uses : List TargetUse

abbrev pub told_by : (ℕ → List ℕ) → Item → Told
told_by bytes tree = record { wake_uses = wake_uses bytes tree; target_uses = target_uses bytes tree }

abbrev pub nothing : Told
nothing = record { wake_uses = []; target_uses = [] }

-- A faulty item has no check.
abbrev pub told_in_item : List ℕ → ProgramItem → Told
told_in_item text x = option_map_or (told_by (token_bytes text x.tokens)) x.tree nothing

-- That of the item with a number.
abbrev pub told_in : List ℕ → List ProgramItem → ℕ → Told
told_in text xs item = option_map_or (told_in_item text) (slice_get xs item) nothing

-- As the check keeps it.
abbrev pub told_of : Checked → Told
told_of c = record { wake_uses = c.wake_uses; target_uses = c.target_uses }

abbrev pub told_kept : Option Checked → Told
told_kept None = nothing
told_kept (Some c) = told_of c

-- The same of a check that is looked at.
abbrev pub told_seen : Option (Bor Checked) → Told
told_seen None = nothing
told_seen (Some c) = told_of c.now

-- A use in a condition, by what it says: the name, and the subscript where that is an integer
-- alone.
abbrev pub used_by : (ℕ → List ℕ) → WakeUse → List ℕ × Option ℕ
used_by bytes u = (bytes u.token, u.subscript)

-- What the conditions of an item say, use by use.
abbrev pub wakes_of : List ℕ → ProgramItem → List (List ℕ × Option ℕ)
wakes_of text x = map (used_by (token_bytes text x.tokens)) (told_in_item text x).wake_uses
