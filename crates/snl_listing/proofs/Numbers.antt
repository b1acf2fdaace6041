-- Numbers that are taken from the front of a list and put, one by one.
use Rattle.std.proofs.Common.{◌≡◌, ℕ, List, [], ◌∷◌, ◌++◌, sym, ap, ◌∙◌, append_assoc}
use Rattle.std.proofs.lemmas.List.{append-nil}
use Rattle.std.proofs.lemmas.List.Concat.{flat_map-append}
use Rattle.std.specs.List.{flat_map}
use Rattle.snl_listing.specs.Sink.{IsSink}

-- what was taken from the numbers was put
pub record IsTaken (Took : List ℕ → Type 0) (line : ℕ → List ℕ) (all left : List ℕ) : Type 0 where
  pub front : List ℕ
  pub whole : front ++ left ≡ all
  pub took : Took (flat_map line front)

pub taken_more : {S : Type 0} {Took Broke : S → S → List ℕ → Type 0} (laws : IsSink Took Broke) (s t u : S) (line : ℕ → List ℕ) (all left rest : List ℕ) (n : ℕ) (put : List ℕ) → IsTaken (Took s t) line all left → left ≡ n ∷ rest → put ≡ line n → Took t u put → IsTaken (Took s u) line all rest
taken_more laws s t u line all left rest n put taken e is took = record {
  front = taken.front ++ n ∷ [];
  whole = append_assoc taken.front (n ∷ []) rest ∙ ap (λ (l : List ℕ). taken.front ++ l) (sym e) ∙ taken.whole;
  took = rw (flat_map-append line taken.front (n ∷ []), append-nil (line n), ← is) (laws.more s t u (flat_map line taken.front) put taken.took took);
}
