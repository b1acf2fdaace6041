-- What a text says after an edit, told anew.
use Rattle.std.specs.Prelude.{◌≡◌, List, length}
use Rattle.snl_kept.specs.declared.editing.Editing.{Editing}
use Rattle.snl_kept.specs.declared.found.findings.Finding.{Finding}
use Rattle.snl_kept.specs.declared.ways.whole.rejudge.Retold.{Retold}
use Rattle.snl_kept.specs.Editing.{edit_in, items_in, text_in}
use Rattle.snl_kept.specs.Planned.{AreLinksAndChecks}
use Rattle.snl_kept.specs.Stirred.{stirred_of}
use Rattle.snl_kept.specs.Tables.{tables_in}
use Rattle.snl_kept.specs.Warnings.{warns_in}

-- These findings are shown; the tables, the links and the checks are those of the new text, and as
-- many checks are made as items are stirred.
pub record IsRetold (e : Editing) (found : List Finding) (r : Retold) : Type 0 where
  pub shown : r.told.shown.items ≡ found
  pub tables : r.told.tables ≡ tables_in (text_in e)
  pub warns : r.told.warns ≡ warns_in (text_in e)
  pub kept : AreLinksAndChecks (edit_in e) (items_in e) r.kept
  pub stirred : length r.kept.checks.made.items ≡ stirred_of (edit_in e)
