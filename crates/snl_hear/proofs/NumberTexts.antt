-- The number that a text is, by its sign.
use Rattle.std.proofs.Common.{◌≡◌, ℕ, List, get_or, drop, true, false, ◌==◌, Bool, cond, is_some, None, Some, option_and_then, refl, arith}
use Rattle.std.specs.Float.{binary64, float_is_finite}
use Rattle.fast_float.specs.Text.{Parts, nearest, scan}
use Rattle.serde_json.specs.Data.{Num}
use Rattle.serde_json.specs.Find.{as_u64}
use Rattle.serde_json.specs.Read.{number_from, number_of}
use Rattle.snl_hear.specs.Values.{as_negative}

pub with_minus : (s : List ℕ) → (get_or s 0 0 == 45) ≡ true →
    number_of s ≡ number_from true (scan (drop 1 s))
unfolding number_of
with_minus s h = rw h

pub with_no_minus : (s : List ℕ) → (get_or s 0 0 == 45) ≡ false →
    number_of s ≡ number_from false (scan s)
unfolding number_of
with_no_minus s h = rw h

-- ---- a number that is no integer of 64 bits

there : (finite : Bool) (n : Num) → finite ≡ is_some (cond finite (Some n) None)
there true n = refl
there false n = refl

pub by_float : (sign : Bool) (p : Parts) →
    option_and_then as_u64 (number_from sign p) ≡ None →
    option_and_then as_negative (number_from sign p) ≡ None →
    float_is_finite (nearest binary64 sign p) ≡ is_some (number_from sign p)
by_float true p h k = grind (arith, there)
by_float false p h k = grind (arith, there)
