-- Searches among the numbers below one.
use Rattle.std.specs.Prelude.{ℕ, zero, suc, Bool, false, ◌||◌, if◌then◌else◌, List, [], ◌∷◌, ◌++◌, Option, None, Some}

-- Some number below n passes the test.
abbrev pub any_below : (ℕ → Bool) → ℕ → Bool
any_below test zero = false
any_below test (suc n) = test n || any_below test n

-- The greatest number below n that passes the test.
abbrev pub last_below : (ℕ → Bool) → ℕ → Option ℕ
last_below test zero = None
last_below test (suc n) = if test n then Some n else last_below test n

-- The numbers below n that pass the test, in order.
abbrev pub all_below : (ℕ → Bool) → ℕ → List ℕ
all_below test zero = []
all_below test (suc n) = all_below test n ++ (if test n then n ∷ [] else [])
