-- What a list has at an index, by what `get` answers there.
use Rattle.std.proofs.Common.{◌≡◌, ℕ, ◌<◌, ◌≤◌, true, false, ltb, List, length, get_or, None, Some, slice_get, refl, arith}
use Rattle.std.proofs.lemmas.Bool.Decides.{nat_tests}
use Rattle.std.proofs.lemmas.Option.{slice_get_past, slice_get_read}

within : (i n : ℕ) → true ≡ ltb i n → i < n
within i n h = grind (arith, nat_tests)

past : (i n : ℕ) → false ≡ ltb i n → n ≤ i
past i n h = grind (arith, nat_tests)

pub got : {A : Type 0} (xs : List A) (i : ℕ) (x : A) → true ≡ ltb i (length xs) → x ≡ get_or xs i x → slice_get xs i ≡ Some x
got xs i x h e = slice_get_read xs (length xs) i x refl (within i (length xs) h) e

pub got-none : {A : Type 0} (xs : List A) (i : ℕ) → false ≡ ltb i (length xs) → slice_get xs i ≡ None
got-none xs i h = slice_get_past xs i (past i (length xs) h)
