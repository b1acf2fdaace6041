-- The event flags of a text and their rows, numbered from 1.
use Rattle.std.specs.Prelude.{◌≡◌, ℕ, zero, suc, List, ◌++◌, slice_get, Option, None, Some}
use Rattle.snl_scope.specs.declared.facts.Declaration.{Declaration}
use Rattle.snl_scope.specs.Linked.{declaration_at}
use Rattle.snl_tables.specs.declared.rows.FlagRow.{FlagRow}
use Rattle.snl_item_check.specs.Items.{ProgramItem, outlines_of}
use Rattle.snl_check.specs.Tables.{flag_row, tables_of}

-- The row with a number: the first one has the number 1.
abbrev pub row_numbered : List FlagRow → ℕ → Option FlagRow
row_numbered rows zero = None
row_numbered rows (suc n) = slice_get rows n

-- The flag that is the declaration with a number has the row numbered n, which speaks of that very
-- declaration.
pub record IsRowOf (text : List ℕ) (xs : List ProgramItem) (number n : ℕ) : Type 0 where
  pub declaration : Declaration
  pub declared : declaration_at (outlines_of text xs) number ≡ Some declaration
  pub row : row_numbered (tables_of text xs).flags n ≡ Some (flag_row xs (outlines_of text xs) declaration)

-- The bytes have the line in them.
pub record HasLine (bytes line : List ℕ) : Type 0 where
  pub before : List ℕ
  pub after : List ℕ
  pub whole : bytes ≡ before ++ (line ++ after)
