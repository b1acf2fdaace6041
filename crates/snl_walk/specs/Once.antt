-- Names that are kept once, in the order in which they come first.
use Rattle.std.specs.Prelude.{ℕ, List, [], ◌∷◌, ◌++◌, if◌then◌else◌}
use Rattle.std.specs.List.{list_any}
use Rattle.std.specs.Str.{bytes_eq}

-- The names found so far, and one more where it isn't among them.
abbrev pub with_new : List (List ℕ) → List ℕ → List (List ℕ)
with_new found name = if list_any (bytes_eq name) found then found else found ++ name ∷ []

-- After names found, each further name once, where it comes first.
abbrev pub once_after : List (List ℕ) → List (List ℕ) → List (List ℕ)
once_after found [] = found
once_after found (name ∷ names) = once_after (with_new found name) names

-- Each name once, where it comes first.
abbrev pub once : List (List ℕ) → List (List ℕ)
once names = once_after [] names
