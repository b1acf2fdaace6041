-- Bytes that are put one after another.
use Rattle.std.proofs.Common.{◌≡◌, ℕ, List, ◌++◌, ap, ◌∙◌, append_assoc}

-- some bytes, and others after them
pub and_then : (old middle new a b : List ℕ) → middle ≡ old ++ a → new ≡ middle ++ b →
    new ≡ old ++ (a ++ b)
and_then old middle new a b first second =
    second ∙ ap (λ (l : List ℕ). l ++ b) first ∙ append_assoc old a b
