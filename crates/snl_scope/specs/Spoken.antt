-- The names that items speak of to the others. An item that uses none of them sees the same
-- wherever these items take the place of those.
use Rattle.std.specs.Prelude.{◌≡◌, ℕ, Bool, false, ◌||◌, List, ◌++◌, map, bytes_eq, option_to_list}
use Rattle.std.specs.List.{flat_map, list_any}
use Rattle.snl_summary.specs.declared.summary.Outline.{Outline}
use Rattle.snl_summary.specs.declared.summary.Role.{Role}
use Rattle.snl_summary.specs.declared.summary.Role.TheVariants as role
use Rattle.snl_summary.specs.declared.summary.Summary.{Summary}
use Rattle.snl_scope.specs.View.{view}

-- The names that an item declares, those of the variables of its clauses, and its own.
abbrev pub spoken : Outline → List (List ℕ)
spoken s = map (λ d. d.name) s.declares ++ map (λ c. c.variable.name) s.clauses ++ option_to_list s.second

abbrev pub spoken_by : List Outline → List (List ℕ)
spoken_by ss = flat_map spoken ss

-- What an item is to the places of the others: a state is as any other item.
abbrev pub bound : Role → Role
bound role.State = role.Other
bound r = r

abbrev pub bounds : List Outline → List Role
bounds ss = map (λ s. bound s.role) ss

-- The names that items speak of and those that others do in their place, which bound as many state
-- sets, one by one.
pub record AreEditedNames (old new : List Outline) (names : List (List ℕ)) : Type 0 where
  pub places : bounds old ≡ bounds new
  pub spoken : names ≡ spoken_by old ++ spoken_by new

abbrev pub is_among : List (List ℕ) → List ℕ → Bool
is_among names name = list_any (bytes_eq name) names

-- The item uses one of these names, or has one of those as a target.
abbrev pub meets : (used led_to : List (List ℕ)) → Summary → Bool
meets used led_to s = list_any (is_among used) s.uses || list_any (λ t. is_among led_to t.name) s.targets

-- The item uses one of the names, or has it as a target.
abbrev pub touches : List (List ℕ) → Summary → Bool
touches names s = meets names names s

-- An item that uses none of these names and has none of those as a target sees the same among these
-- items and among those.
abbrev pub KeepsViewsBut : (ss ts : List Outline) → (used led_to : List (List ℕ)) → Type 0
KeepsViewsBut ss ts used led_to = (i : ℕ) (s : Summary) → meets used led_to s ≡ false → view ss i s ≡ view ts i s

-- An item that touches none of the names sees the same among these items and among those.
abbrev pub KeepsViews : (ss ts : List Outline) → (names : List (List ℕ)) → Type 0
KeepsViews ss ts names = KeepsViewsBut ss ts names names
