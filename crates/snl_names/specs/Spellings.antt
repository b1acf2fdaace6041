-- Where names that are one after another end.
use Rattle.std.specs.Prelude.{◌≡◌, ℕ, ◌≤◌, List, [], ◌∷◌, length}
use Rattle.snl_cut.specs.Cut.{last_end}

-- No end is before the one before it.
abbrev pub Follow : ℕ → List ℕ → Type 0
Follow from [] = Unit {0}
Follow from (e ∷ es) = (from ≤ e) × Follow e es

pub record AreEnds (bytes ends : List ℕ) : Type 0 where
  pub follow : Follow 0 ends
  pub last : last_end 0 ends ≡ length bytes
