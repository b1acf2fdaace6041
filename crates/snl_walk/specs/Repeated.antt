-- Where no name is told as declared again.
use Rattle.std.specs.Prelude.{◌≡◌, ◌⊎◌, ℕ, List, None}
use Rattle.std.specs.List.{Contains}
use Rattle.snl_codes.specs.declared.code.Code.TheVariants.{E07}
use Rattle.snl_walk.specs.declared.occurrence.Occurrence.{Occurrence}
use Rattle.snl_walk.specs.declared.rules.Finding.{Finding}

-- The occurrence resolves to nothing in the item, or is at none of these tokens.
abbrev pub IsApartFrom : List ℕ → Occurrence → Type 0
IsApartFrom tokens o = (o.means ≡ None) ⊎ (Contains tokens o.token → ⊥)

-- The finding is no repetition at one of these tokens.
abbrev pub IsNoRepetitionAt : List ℕ → Finding → Type 0
IsNoRepetitionAt tokens f = f.code ≡ E07 → Contains tokens f.token → ⊥
