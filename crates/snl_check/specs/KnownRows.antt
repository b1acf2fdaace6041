-- Rows that are known before they are made.
use Rattle.std.specs.Prelude.{◌≡◌, length, take}
use Rattle.snl_tables.specs.declared.rows.Tables.{Tables}
use Rattle.snl_check.specs.declared.rows.known_rows.KnownRows.{KnownRows}

-- They are the rows of these tables: of all channels, and of the first state sets.
pub record AreKnown (known : KnownRows) (t : Tables) : Type 0 where
  pub channels : known.channels.now ≡ t.channels
  pub sets : known.sets.now ≡ take (length known.sets.now) t.sets
