-- Bytes put after bytes.
use Rattle.std.proofs.Common.{◌≡◌, ℕ, List, ◌++◌, Result, Ok, Err, refl}
use Rattle.std.specs.Prelude.{IsErr}
use Rattle.std.proofs.lemmas.Result.{MatchResult-from_err}
use Rattle.snl_listing.specs.Sink.{IsSink, Put}

-- bytes were taken, and then more were put
pub put_on : {S T E : Type 0} {Took Broke : S → S → List ℕ → Type 0} (laws : IsSink Took Broke) (r : Result T E) (s t u : S) (xs ys all : List ℕ) → xs ++ ys ≡ all → Took s t xs → Put r (Took t u) (Broke t u) ys → Put r (Took s u) (Broke s u) all
put_on laws (Ok x) s t u xs ys all e took put = rw (← e) (laws.more s t u xs ys took put)
put_on laws (Err x) s t u xs ys all e took put = rw (← e) (laws.broken_on s t u xs ys took put)

-- the sink broke off at the first bytes
pub put_broken : {S T E : Type 0} {Took Broke : S → S → List ℕ → Type 0} (laws : IsSink Took Broke) (r : Result T E) (s t : S) (xs ys all : List ℕ) → xs ++ ys ≡ all → IsErr r → Broke s t xs → Put r (Took s t) (Broke s t) all
put_broken {S} {T} {E} {Took} {Broke} laws r s t xs ys all e err broke = MatchResult-from_err r (λ _. Took s t all) (λ _. Broke s t all) err (λ _. rw (← e) (laws.broken_before s t xs ys broke))

-- some were taken, and at the next it broke off
pub put_broken_on : {S T E : Type 0} {Took Broke : S → S → List ℕ → Type 0} (laws : IsSink Took Broke) (r : Result T E) (s t u : S) (xs ys zs all : List ℕ) → xs ++ (ys ++ zs) ≡ all → IsErr r → Took s t xs → Broke t u ys → Put r (Took s u) (Broke s u) all
put_broken_on laws r s t u xs ys zs all e err took broke = put_on laws r s t u xs (ys ++ zs) all e took (put_broken laws r t u ys zs (ys ++ zs) refl err broke)
