-- A change of a text that is cut to what differs.
use Rattle.std.specs.Prelude.{◌≢◌, ℕ, ◌-◌, ◌<◌, List, length, slice_index}

-- Of a range of a text and what comes in its place, neither the first byte nor the last one stays.
pub record IsTight (text : List ℕ) (start stop : ℕ) (new : List ℕ) : Type 0 where
  pub first : start < stop → 0 < length new → slice_index text start ≢ slice_index new 0
  pub last : start < stop → 0 < length new
      → slice_index text (stop - 1) ≢ slice_index new (length new - 1)
