-- Keys by which names are found, and their order.
use Rattle.std.specs.Prelude.{◌≡◌, ◌≢◌, ℕ, ◌<◌, ◌≤◌, Bool, true, false, List, [], All, MatchOption, Option, Some, get_or, length, map, nat_eq, slice_get}
use Rattle.std.specs.Cmp.Lexicographic.{slice_cmp}
use Rattle.std.specs.List.{AllWithin, list_any}
use Rattle.std.specs.Ordering.{is_lt, nat_cmp, on, then_cmp}
use Rattle.std.specs.declared.cmp.Ordering.{Ordering}
use Rattle.snl_names.specs.Prints.{print_of}
use Rattle.snl_names.specs.declared.keys.Key.{Key}

-- The order of names: by their prints, and those of one print by their bytes.
abbrev pub name_cmp : List ℕ → List ℕ → Ordering
name_cmp = then_cmp (on print_of nat_cmp) (slice_cmp nat_cmp)

unfoldable pub comes_before : List ℕ → List ℕ → Bool
comes_before a b = is_lt (name_cmp a b)

abbrev pub print_in : Key → ℕ
print_in k = k.print

-- The names that keys lead to, in the order of the keys.
abbrev pub spelled : List (List ℕ) → List Key → List (List ℕ)
spelled names keys = map (λ k. get_or names k.number []) keys

-- No name comes before an earlier one.
abbrev pub InOrder : List (List ℕ) → Type 0
InOrder names = (i j : ℕ) → i ≤ j → j < length names → comes_before (get_or names j []) (get_or names i []) ≡ false

-- A key of one of the names.
pub record IsKey (names : List (List ℕ)) (key : Key) : Type 0 where
  pub inside : key.number < length names
  pub print : key.print ≡ print_of (get_or names key.number [])

-- Keys of names, in their order.
pub record AreKeys (names : List (List ℕ)) (keys : List Key) : Type 0 where
  pub each : All (IsKey names) keys
  pub order : InOrder (spelled names keys)

-- The names of the keys from one place up to another come before a name; or none of them does.
abbrev pub AllBefore : List (List ℕ) → List Key → List ℕ → ℕ → ℕ → Type 0
AllBefore names keys name from to = AllWithin (λ n. comes_before n name ≡ true) (spelled names keys) from to

abbrev pub NoneBefore : List (List ℕ) → List Key → List ℕ → ℕ → ℕ → Type 0
NoneBefore names keys name from to = AllWithin (λ n. comes_before n name ≡ false) (spelled names keys) from to

-- The keys from one place up to another have lesser prints; or they have no lesser ones.
abbrev pub AllLess : List Key → ℕ → ℕ → ℕ → Type 0
AllLess keys print from to = AllWithin (λ k. k.print < print) keys from to

abbrev pub NoneLess : List Key → ℕ → ℕ → ℕ → Type 0
NoneLess keys print from to = AllWithin (λ k. print ≤ k.print) keys from to

-- What is found of a name by keys: its number, or that none of them leads to it.
abbrev pub IsFound : List (List ℕ) → List Key → List ℕ → Option ℕ → Type 0
IsFound names keys name found = MatchOption found (All (λ n. n ≢ name) (spelled names keys)) (λ n. slice_get names n ≡ Some name)

-- One of the keys has this number.
abbrev pub has_number : ℕ → List Key → Bool
has_number number keys = list_any (λ k. nat_eq k.number number) keys
