-- The outlines of items, by their numbers.
use Rattle.std.proofs.Common.{◌≡◌, ℕ, ◌<◌, Bool, true, false, List, [], length, slice_get, zero, suc, ◌∷◌, arith}
use Rattle.std.specs.Option.{option_map}
use Rattle.std.proofs.lemmas.Option.{slice_get-map}
use Rattle.snl_summary.specs.declared.summary.Outline.{Outline}
use Rattle.snl_item_check.specs.Items.{ProgramItem, outlines_of, outline_of_item}
use Rattle.std.proofs.lemmas.Bool.{false≢true}
use Rattle.snl_scope.specs.Places.{item_is}

-- the outline of an item
pub outline_at : (text : List ℕ) (xs : List ProgramItem) (i : ℕ) → slice_get (outlines_of text xs) i ≡ option_map (outline_of_item text) (slice_get xs i)
outline_at text xs i = slice_get-map (outline_of_item text) xs i

-- what a test of an item says of its number
pub is_within : (test : Outline → Bool) (ss : List Outline) (i : ℕ) → item_is test ss i ≡ true → i < length ss
is_within test [] i h = absurd (false≢true h)
is_within test (s ∷ ss) zero h = omega arith
is_within test (s ∷ ss) (suc i) h = let l = is_within test ss i h in omega (arith, l)
