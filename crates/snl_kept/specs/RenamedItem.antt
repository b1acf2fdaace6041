-- An edit inside one item that declares other names than it did, or is a state with another name.
use Rattle.std.specs.Prelude.{◌≡◌, ◌≢◌, ℕ, false, List, slice_get, Some}
use Rattle.snl_scope.specs.Spoken.{touches}
use Rattle.snl_kept.specs.declared.entries.Entry.{Entry}
use Rattle.snl_kept.specs.declared.ways.one_item.renamed.RenamedRows.{RenamedRows}
use Rattle.snl_kept.specs.declared.ways.one_item.renamed.RenamedRows.TheVariants as rows
use Rattle.snl_kept.specs.declared.ways.one_item.touched_rows.TouchedRows.{TouchedRows}
use Rattle.snl_kept.specs.declared.ways.one_item.touched_rows.TouchedRows.TheVariants as touched

-- No item but the one with a number uses one of these names, or has it as a target.
abbrev pub AreUntouched : List (List ℕ) → ℕ → List Entry → Type 0
AreUntouched names k es = (i : ℕ) (e : Entry) → i ≢ k → slice_get es i ≡ Some e → touches names e.summary ≡ false

-- The rows that such an item changes, among those that any may.
abbrev pub as_touched : RenamedRows → TouchedRows
as_touched rows.Nothing = touched.Nothing
as_touched (rows.Body set) = touched.Body set
