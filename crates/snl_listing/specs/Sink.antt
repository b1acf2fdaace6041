-- What is known of bytes that were handed on to a sink.
use Rattle.std.specs.Prelude.{◌≡◌, List, [], ◌++◌, ℕ, Result, MatchResult}

-- From one state to another a sink took just some bytes, or broke off after a front of them: how
-- the two go together.
pub record IsSink {S : Type 0} (Took Broke : S → S → List ℕ → Type 0) : Type 0 where
  pub nothing : (s : S) → Took s s []
  pub more : (s t u : S) (xs ys : List ℕ) → Took s t xs → Took t u ys → Took s u (xs ++ ys)
  pub broken_on : (s t u : S) (xs ys : List ℕ) → Took s t xs → Broke t u ys → Broke s u (xs ++ ys)
  pub broken_before : (s t : S) (xs ys : List ℕ) → Broke s t xs → Broke s t (xs ++ ys)

-- The bytes were taken, or the sink broke off after a front of them.
abbrev pub Put : {T E : Type 0} → Result T E → (Took Broke : List ℕ → Type 0) → (bytes : List ℕ) → Type 0
Put result Took Broke bytes = MatchResult result (λ _. Took bytes) (λ _. Broke bytes)

-- Bytes that grew by a front of some others.
pub record GrewByFront (old new bytes : List ℕ) : Type 0 where
  pub front : List ℕ
  pub lost : List ℕ
  pub all : front ++ lost ≡ bytes
  pub grown : new ≡ old ++ front
