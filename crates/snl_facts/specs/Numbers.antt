-- Tests of numbers.
use Rattle.std.proofs.Common.{◌≡◌, ℕ, suc, ◌+◌, ◌≤◌, true, cond, nat_lt, arith}
use Rattle.std.proofs.lemmas.Bool.Decides.{nat_tests}

pub lt_suc : (m n : ℕ) → nat_lt (1 + m) (suc n) ≡ nat_lt m n
lt_suc m n = grind (arith, nat_tests)

pub zero_lt : (n : ℕ) → nat_lt 0 (suc n) ≡ true
zero_lt n = grind (arith, nat_tests)

-- A test as a count: what is below a number is below a greater one.
pub bit_more : (a b e : ℕ) → a ≤ b → cond (nat_lt e a) 1 0 ≤ cond (nat_lt e b) 1 0
bit_more a b e le = grind (arith, nat_tests)
