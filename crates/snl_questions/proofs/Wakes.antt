-- The line of what a state wakes on: the first name, and the others after commas.
use Rattle.std.proofs.Common.{◌≡◌, ◌++◌, ◌∷◌, ◌∙◌, ℕ, List, [], codes, map, take, append-nil, append_assoc, ap}
use Rattle.std.specs.List.{flat_map}
use Rattle.std.proofs.lemmas.Grind.{flat_map-append}
use Rattle.std.proofs.lemmas.List.Folds.{flat_map-map}
use Rattle.snl_questions.specs.Hover.{after_comma, first_said, further, more, most, wake_line}

module _ {X : Type 0} (says : X → List ℕ) (xs : List X) where
  others_said : (others : List X) → flat_map after_comma (map says others ++ more xs) ≡
      flat_map (λ x. after_comma (says x)) others ++ flat_map after_comma (more xs)
  others_said others =
      flat_map-append after_comma (map says others) (more xs)
      ∙ ap (λ (l : List ℕ). l ++ flat_map after_comma (more xs))
      (flat_map-map after_comma says others)

  pub all_said : (first : X) (others : List X) → take most xs ≡ first ∷ others →
      further (wake_line (first_said says xs)) ≡
      codes "\nwakes on " ++ (says first ++ (flat_map (λ x. after_comma (says x)) others
      ++ flat_map after_comma (more xs)))
  all_said first others are =
      let names : List ℕ = flat_map after_comma (map says others ++ more xs) in
      let line : List ℕ = codes "\nwakes on " ++ (says first ++ (names ++ [])) in
      ap (λ (l : List X). further (wake_line (map says l ++ more xs))) are
      ∙ append-nil line
      ∙ ap (λ (l : List ℕ). codes "\nwakes on " ++ (says first ++ l))
      (append-nil names ∙ others_said others)

-- five parts, one after another
pub five : (a b c d e : List ℕ) → (((a ++ b) ++ c) ++ d) ++ e ≡ a ++ (b ++ (c ++ (d ++ e)))
five a b c d e = simp append_assoc
