-- Different names, and the keys by which they are found.
use Rattle.std.specs.Prelude.{◌≡◌, ℕ, ◌<◌, true, ◌||◌, if◌then◌else◌, List, [], ◌∷◌, ◌++◌, bytes_eq, get_or, is_some, length, position, Some}
use Rattle.snl_names.specs.Keys.{AreKeys, has_number}
use Rattle.snl_names.specs.declared.keys.Key.{Key}

-- A list of different names, with one more.
abbrev pub with_name : List (List ℕ) → List ℕ → List (List ℕ)
with_name names name = if is_some (position (bytes_eq name) names) then names else names ++ name ∷ []

-- No two of the names are alike: each is found where it is.
abbrev pub AllDiffer : List (List ℕ) → Type 0
AllDiffer names = (n : ℕ) → n < length names → position (bytes_eq (get_or names n [])) names ≡ Some n

-- The names are different, and each has a key in one of two lists.
pub record IsBook (names : List (List ℕ)) (sorted recent : List Key) : Type 0 where
  pub different : AllDiffer names
  pub sorted_keys : AreKeys names sorted
  pub recent_keys : AreKeys names recent
  pub keyed : (n : ℕ) → n < length names → (has_number n sorted || has_number n recent) ≡ true
