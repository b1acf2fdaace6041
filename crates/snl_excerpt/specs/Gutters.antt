-- What is before a shown line, and before the marks under it.
use Rattle.std.specs.Prelude.{ℕ, ◌-◌, List, ◌++◌, codes, decimal, length, max, replicate}

-- The number of a line, at the right of five columns.
abbrev pub gutter : (line : ℕ) → List ℕ
gutter line = replicate (5 - length (decimal line)) 32 ++ decimal line ++ codes " | "

-- As many columns of blanks.
abbrev pub blank_gutter : (line : ℕ) → List ℕ
blank_gutter line = replicate (max 5 (length (decimal line))) 32 ++ codes " | "
