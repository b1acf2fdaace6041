-- Names that nothing declares, in the item or outside, and that have no meaning in the language
-- itself.
use Rattle.std.specs.Prelude.{ℕ, Bool, not, ◌&&◌, ◌||◌, if◌then◌else◌, codes, nat_eq, List, [], ◌∷◌, ◌++◌, Option, is_none}
use Rattle.std.specs.List.{list_any, starts_with}
use Rattle.std.specs.Str.{bytes_eq}
use Rattle.snl_walk.specs.declared.occurrence.Occurrence.{Occurrence}
use Rattle.snl_walk.specs.declared.other_items.Outer.{Outer}
use Rattle.snl_walk.specs.Once.{with_new}
use Rattle.snl_walk.specs.Passing.{passes}
use Rattle.snl_walk.specs.Uses.{is_use, tokens_where}

abbrev pub is_constant : List ℕ → Bool
is_constant name =
    bytes_eq name (codes "TRUE") || bytes_eq name (codes "FALSE") || bytes_eq name (codes "SYNC") || bytes_eq name (codes "ASYNC") || bytes_eq name (codes "NOEVFLAG")

abbrev pub is_channel_constant : List ℕ → Bool
is_channel_constant name = starts_with nat_eq name (codes "pvStat") || starts_with nat_eq name (codes "pvSevr")

abbrev pub is_built_in : List ℕ → Bool
is_built_in name = is_constant name || is_channel_constant name

abbrev pub is_undeclared : (List ℕ → Option Outer) → List ℕ → Occurrence → Bool
is_undeclared outer name o = is_use o.what && is_none (passes outer name o.means) && not (is_built_in name)

-- After names that are there already: the first token of each other name.
abbrev pub firsts_after : (ℕ → List ℕ) → List (List ℕ) → List ℕ → List ℕ
firsts_after bytes names [] = []
firsts_after bytes names (n ∷ ns) =
    (if list_any (bytes_eq (bytes n)) names then [] else n ∷ []) ++ firsts_after bytes (with_new names (bytes n)) ns

-- The first use of each name.
abbrev pub undeclared : (ℕ → List ℕ) → (List ℕ → Option Outer) → List Occurrence → List ℕ
undeclared bytes outer found = firsts_after bytes [] (tokens_where (λ o. is_undeclared outer (bytes o.token) o) found)
