-- One level less, beside the code that counts levels down.
use Rattle.std.proofs.Common.{◌≡◌, ℕ, suc, ◌-◌, arith}

pub one_less : (n : ℕ) → suc n - 1 ≡ n
one_less n = omega arith
