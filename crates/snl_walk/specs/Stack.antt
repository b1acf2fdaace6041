-- What a book of names with their meanings, and a stack of declarations, say of names.
use Rattle.std.specs.Prelude.{◌≡◌, ℕ, List, [], ◌∷◌, ◌++◌, bytes_eq, get_or, length, map, nat_lt, position, reverse, slice_set, Option, None, if◌then◌else◌, option_and_then}
use Rattle.snl_walk.specs.declared.occurrence.Local.{Local}
use Rattle.snl_walk.specs.declared.stack.VisibleName.{VisibleName}
use Rattle.snl_walk.specs.Scopes.{look_up}

abbrev pub shown : VisibleName → List ℕ × Local
shown e = (e.name.now, e.declared)

-- The entries of a stack, the last one first.
abbrev pub newest_first : List VisibleName → List (List ℕ × Local)
newest_first es = map shown (reverse es)

-- Each entry keeps what its name meant by the entries before it.
abbrev pub KeepsEarlier : List VisibleName → Type 0
KeepsEarlier [] = Unit {0}
KeepsEarlier (e ∷ es) = (e.earlier ≡ look_up e.name.now (map shown es)) × KeepsEarlier es

-- What a name means, by its number among the names of the book.
abbrev pub told_in : List (List ℕ) → List (Option Local) → List ℕ → Option Local
told_in names meanings name =
    option_and_then (λ n. get_or meanings n None) (position (bytes_eq name) names)

-- Meanings, with another one at a number, or one more at their end.
abbrev pub put_at : ℕ → Option Local → List (Option Local) → List (Option Local)
put_at n meaning meanings =
    if nat_lt n (length meanings) then slice_set meanings n meaning else meanings ++ meaning ∷ []

-- The book says of each name what the stack says.
pub record IsStacked (es : List VisibleName) (names : List (List ℕ)) (meanings : List (Option Local)) : Type 0 where
  pub told : (name : List ℕ) → told_in names meanings name ≡ look_up name (newest_first es)
  pub kept : KeepsEarlier (reverse es)
  pub counted : length meanings ≡ length names
