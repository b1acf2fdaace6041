-- The changes of an array: what is left of it, after those that were found, gives what all of it
-- gives.
use Rattle.std.proofs.Common.{◌≡◌, Global, List, ◌++◌, Option, option_map}
use Rattle.snl_hear.specs.Values.{seen_all}
use Rattle.json.specs.declared.value.Value.{Value}
use Rattle.snl_hear.specs.Changes.{Changed, changes_in}

abbrev pub AreFirst : (found : List Changed) → (rest : List (Value Global)) → (all : Option (List Changed)) →
    Type 0
AreFirst found rest all =
    option_map (λ changes. found ++ changes) (changes_in (seen_all rest)) ≡ all
