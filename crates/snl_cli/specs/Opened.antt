-- The file that a path names.
use Rattle.std.specs.Prelude.{◌≡◌, ℕ, List, Option, Some, None, Result, Ok, Err}

-- Where there is a path, the answer is what opening gives for it; where there is none, there is no
-- file.
abbrev pub IsOpened : {F E : Type 0} → (gives : List ℕ → Result F E → Type 0) → Option (List ℕ) → Result (Option F) E → Type 0
IsOpened gives None result = result ≡ Ok None
IsOpened gives (Some path) (Ok None) = ⊥
IsOpened gives (Some path) (Ok (Some file)) = gives path (Ok file)
IsOpened gives (Some path) (Err fault) = gives path (Err fault)
