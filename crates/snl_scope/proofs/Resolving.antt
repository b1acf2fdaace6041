-- What a name resolves to, by the tables.
use Rattle.std.proofs.Common.{◌≡◌, ℕ, List, Option, None, Some, option_map, refl, sym, ap, ap₂, ◌∙◌}
use Rattle.std.specs.List.{position}
use Rattle.std.specs.Option.{option_and_then, option_or}
use Rattle.std.specs.Str.{bytes_eq}
use Rattle.snl_scope.specs.declared.names.first_numbers.FirstNumbers.{FirstNumbers}
use Rattle.snl_scope.specs.declared.names.name_tables.Symbol.{Symbol}
use Rattle.snl_scope.specs.declared.names.namespaces.Namespace.{Namespace}
use Rattle.snl_scope.specs.declared.names.namespaces.Namespace.TheVariants as namespace
use Rattle.snl_summary.specs.declared.summary.Outline.{Outline}
use Rattle.snl_scope.specs.Clauses.{resolve_in}
use Rattle.snl_scope.specs.Names.{entries, number_in, resolve}
use Rattle.snl_scope.specs.NameTables.{Tabled, nearest_under, number_under}
use Rattle.snl_scope.specs.declared.outlines.flat.FlatRef.{FlatRef}
use Rattle.snl_scope.specs.OutlineList.{name_at, ref_by}
use Rattle.snl_scope.specs.Places.{enclosing_set}

-- what the tables have for a name with a number
module _ (names : List (List ℕ)) (first : FirstNumbers) (symbols : List Symbol) (ss : List Outline) (f : Tabled names first symbols (entries ss))
    (name : List ℕ) (n : ℕ) (numbered : position (bytes_eq name) names ≡ Some n) where
  number_is : (s : Namespace) → number_under first s n ≡ number_in (entries ss) s name
  number_is s = sym (ap (option_and_then (number_under first s)) numbered) ∙ f.found s name

  nearest_is : (p : Option ℕ) → nearest_under first p n ≡ resolve (entries ss) p name
  nearest_is None = number_is namespace.Program
  nearest_is (Some k) =
      ap (λ o. option_or o (number_under first namespace.Program n)) (number_is (namespace.StateSet k))
      ∙ ap (option_or (number_in (entries ss) (namespace.StateSet k) name)) (number_is namespace.Program)

  pub resolved_in : (i : ℕ) → option_or (number_under first (namespace.State i) n) (nearest_under first (enclosing_set ss i) n) ≡ resolve_in ss i name
  resolved_in i = ap₂ option_or (number_is (namespace.State i)) (nearest_is (enclosing_set ss i))

-- a flag that a clause may name
pub flag_resolved : (ss : List Outline) (names : List (List ℕ)) (i : ℕ) (o : Option FlatRef)
    → option_and_then (λ m. resolve_in ss i (name_at names m.name)) o ≡ option_and_then (λ m. resolve_in ss i m.name) (option_map (ref_by names) o)
flag_resolved ss names i None = refl
flag_resolved ss names i (Some m) = refl
