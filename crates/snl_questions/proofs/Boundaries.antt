-- The last place up to another one at which a character begins.
use Rattle.std.proofs.Common.{◌≡◌, ◌-◌, ◌<◌, ◌≤◌, ◌∙◌, ℕ, zero, suc, true, false, cond, List, ap, refl, arith}
use Rattle.std.specs.Prelude.{slice_index}
use Rattle.std.specs.Fmt.{is_char_start}
use Rattle.std.specs.Fmt.Cut.{floor_char_boundary}

-- at a place where one begins
pub boundary_here : (bytes : List ℕ) (n : ℕ) → is_char_start (slice_index bytes n) ≡ true →
    floor_char_boundary bytes n ≡ n
unfolding floor_char_boundary
boundary_here bytes zero begins = refl
boundary_here bytes (suc n) begins = ap
    (λ b. cond b (suc n) (floor_char_boundary bytes n)) begins

-- at one where none does
pub boundary_before : (bytes : List ℕ) (n : ℕ) → 0 < n →
    is_char_start (slice_index bytes n) ≡ false →
    floor_char_boundary bytes n ≡ floor_char_boundary bytes (n - 1)
unfolding floor_char_boundary
boundary_before bytes zero some begins = absurd (omega (arith, some))
boundary_before bytes (suc n) some begins =
    let one : n ≡ suc n - 1 = omega arith in
    ap (λ b. cond b (suc n) (floor_char_boundary bytes n)) begins
    ∙ ap (floor_char_boundary bytes) one

-- where the text begins
pub boundary_zero : (bytes : List ℕ) (n : ℕ) → n ≤ 0 → floor_char_boundary bytes n ≡ n
unfolding floor_char_boundary
boundary_zero bytes zero first = refl
boundary_zero bytes (suc n) first = absurd (omega (arith, first))
