-- Lists that are made of lists: what is made of each element is changed alike.
use Rattle.std.proofs.Common.{◌≡◌, List, [], ◌∷◌, ◌++◌, map, Option, Some, None, refl, ap₂, sym, ◌∙◌}
use Rattle.std.specs.List.{AllByRecursion, cons_option, filter_map, flat_map}
use Rattle.std.specs.Option.{option_map}
use Rattle.std.proofs.lemmas.List.{map-append}

pub filter_map_changed : {X Y : Type 0} (g : Y → Y) (f h : X → Option Y) (xs : List X) → AllByRecursion (λ x. h x ≡ option_map g (f x)) xs → filter_map h xs ≡ map g (filter_map f xs)
filter_map_changed g f h [] each = refl
filter_map_changed {Y = Y} g f h (x ∷ xs) each =
    ap₂ (λ (o : Option Y) (l : List Y). cons_option o l) each.0 (filter_map_changed g f h xs each.1) ∙ by (f x)
  where
    by : (o : Option Y) → cons_option (option_map g o) (map g (filter_map f xs)) ≡ map g (cons_option o (filter_map f xs))
    by None = refl
    by (Some y) = refl

pub flat_map_changed : {X Y : Type 0} (g : Y → Y) (f h : X → List Y) (xs : List X) → AllByRecursion (λ x. h x ≡ map g (f x)) xs → flat_map h xs ≡ map g (flat_map f xs)
flat_map_changed g f h [] each = refl
flat_map_changed {Y = Y} g f h (x ∷ xs) each =
    ap₂ (λ (y : List Y) (ys : List Y). y ++ ys) each.0 (flat_map_changed g f h xs each.1) ∙ sym (map-append g (f x) (flat_map f xs))
