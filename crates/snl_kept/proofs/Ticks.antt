-- Counts of ticks: those of few are exact, and they add up.
use Rattle.std.proofs.Common.{arith, ◌≡◌, ℕ, zero, suc, ◌+◌, ◌^◌, ◌<◌, refl, ap, ◌∙◌}
use Rattle.snl_cut.specs.Cut.{after_ticks, ticked}

pub exact_ticks : (n : ℕ) → n < 2 ^ 64 → after_ticks 0 n ≡ n
exact_ticks zero h = refl
exact_ticks (suc n) h = let before : after_ticks 0 n ≡ n = exact_ticks n (omega arith) in omega (arith, before)

-- What a new count tells after a few ticks.
pub few_told : (told counted begun n : ℕ) → told ≡ counted → counted ≡ after_ticks begun n → begun ≡ 0 → n < 2 ^ 64 → told ≡ n
few_told told counted begun n is ticked new few = is ∙ ticked ∙ ap (λ t. after_ticks t n) new ∙ exact_ticks n few

-- ticks after ticks
pub ticks_add : (t m n : ℕ) → after_ticks (after_ticks t m) n ≡ after_ticks t (m + n)
ticks_add t m zero = let same : m ≡ m + zero = omega arith in ap (after_ticks t) same
ticks_add t m (suc n) = let same : suc (m + n) ≡ m + suc n = omega arith in ap ticked (ticks_add t m n) ∙ ap (after_ticks t) same
