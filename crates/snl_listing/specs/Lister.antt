-- Marks with which a listing of some tables can be written.
use Rattle.std.specs.Prelude.{◌≡◌, []}
use Rattle.snl_listing.specs.declared.lister.Lister.{Lister}
use Rattle.snl_tables.specs.declared.rows.Tables.{Tables}
use Rattle.snl_tables.specs.declared.wake_sets.WakeMarks.{WakeMarks}
use Rattle.snl_tables.specs.Marks.{marked}
use Rattle.snl_tables.specs.WakeSets as wake_sets

pub record IsReady (tables : Tables) (marks : WakeMarks) : Type 0 where
  pub fit : wake_sets.IsFor tables marks
  pub no_flag : marked marks.flags ≡ []
  pub no_channel : marked marks.channels ≡ []

-- A writer whose memory serves these tables.
abbrev pub IsFor : Tables → Lister → Type 0
IsFor tables lister = IsReady tables lister.marks
