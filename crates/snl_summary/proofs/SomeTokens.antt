-- The tokens of some of the occurrences: what holds of the tokens of all, and that they rise where
-- all do.
use Rattle.std.proofs.Common.{◌≡◌, ℕ, ◌<◌, Bool, true, false, cond, filter, List, [], ◌∷◌, map, refl, ap}
use Rattle.std.proofs.lemmas.List.Elements.{recursion_from_All}
use Rattle.std.proofs.lemmas.List.Kept.{AllPairs-from_increasing}
use Rattle.std.specs.List.{All, AllByRecursion as Each}
use Rattle.std.specs.List.Sorted.{IsStrictlyIncreasing}
use Rattle.snl_facts.specs.Each.{EachTwo, rising_from_two, two_from_pairs}
use Rattle.snl_lex.specs.declared.piece.Piece.{Piece}
use Rattle.snl_summary.specs.Summaries.Tokens.{name_ref_at}
use Rattle.snl_walk.specs.declared.occurrence.Occurrence.{Occurrence}
use Rattle.snl_walk.specs.Items.{tokens_of}
use Rattle.snl_walk.specs.Uses.{tokens_where}

module _ (test : Occurrence → Bool) where
  each_where : (P : ℕ → Type 0) (found : List Occurrence) → Each P (tokens_of found) → Each P (tokens_where test found)
  each_where P [] h = tt
  each_where P (o ∷ os) h = by (each_where P os h.1) (test o)
    where
      by : Each P (tokens_where test os) → (b : Bool) → Each P (map (λ o. o.token) (cond b (o ∷ filter test os) (filter test os)))
      by rest true = (h.0, rest)
      by rest false = rest

  pub all_where : (P : ℕ → Type 0) (found : List Occurrence) → All P (tokens_of found) → Each P (tokens_where test found)
  all_where P found h = each_where P found (recursion_from_All P (tokens_of found) h)

  two_where : (R : ℕ → ℕ → Type 0) (found : List Occurrence) → EachTwo R (tokens_of found) → EachTwo R (tokens_where test found)
  two_where R [] h = tt
  two_where R (o ∷ os) h = by (two_where R os h.1) (test o)
    where
      by : EachTwo R (tokens_where test os) → (b : Bool) → EachTwo R (map (λ o. o.token) (cond b (o ∷ filter test os) (filter test os)))
      by rest true = (each_where (R o.token) os h.0, rest)
      by rest false = rest

  pub rising_where : (found : List Occurrence) → IsStrictlyIncreasing (tokens_of found) → IsStrictlyIncreasing (tokens_where test found)
  rising_where found h = rising_from_two (tokens_where test found) (two_where (λ a b. a < b) found (two_from_pairs (λ a b. a < b) (tokens_of found) (AllPairs-from_increasing (tokens_of found) h)))

-- the tokens of the names at tokens
pub tokens_mentioned : (text : List ℕ) (tokens : List Piece) (ns : List ℕ) → map (λ m. m.token) (map (name_ref_at text tokens) ns) ≡ ns
tokens_mentioned text tokens [] = refl
tokens_mentioned text tokens (n ∷ ns) = ap (λ (ms : List ℕ). n ∷ ms) (tokens_mentioned text tokens ns)
