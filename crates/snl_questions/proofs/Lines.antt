-- Lines after others, and what is said of the first of many.
use Rattle.std.proofs.Common.{◌≡◌, ◌+◌, ◌++◌, ◌∷◌, ◌∙◌, ℕ, List, [], Option, Some, codes, decimal, map, position, take, append-nil, ap, sym}
use Rattle.std.specs.List.{flat_map, join_with_byte}
use Rattle.std.specs.Option.{option_map_or}
use Rattle.std.proofs.lemmas.Grind.{flat_map-append}
use Rattle.std.proofs.lemmas.List.Folds.{flat_map-map}
use Rattle.snl_tables.specs.declared.rows.FlagRow.{FlagRow}
use Rattle.snl_tables.specs.declared.rows.Span.{Span}
use Rattle.snl_questions.specs.Hover.{first_said, flag_line, flag_lines, further, is_flag, more, most}

-- lines that are joined: the first one, and the others after it
pub joined : (line : List ℕ) (lines : List (List ℕ)) →
    join_with_byte 10 (line ∷ lines) ≡ line ++ further lines
joined line [] = sym (append-nil line)
joined line (next ∷ lines) = ap (λ (l : List ℕ). line ++ (10 ∷ l)) (joined next lines)

pub further_append : (xs ys : List (List ℕ)) → further (xs ++ ys) ≡ further xs ++ further ys
further_append xs ys = flat_map-append (λ (line : List ℕ). 10 ∷ line) xs ys

-- what is said of the first ones, a line each, and that there are more
pub each_first : {X : Type 0} (says : X → List ℕ) (xs : List X) → further (first_said says xs) ≡
    flat_map (λ x. 10 ∷ says x) (take most xs) ++ further (more xs)
each_first {X} says xs =
    further_append (map says (take most xs)) (more xs)
    ∙ ap (λ (l : List ℕ). l ++ further (more xs))
    (flat_map-map (λ (line : List ℕ). 10 ∷ line) says (take most xs))

-- the line of an event flag
pub flag_said : (flags : List FlagRow) (declared : Span) (place : ℕ) →
    position (is_flag declared) flags ≡ Some place →
    further (flag_lines flags declared) ≡ codes "\nevent flag " ++ decimal (place + 1)
unfolding flag_lines
flag_said flags declared place at =
    ap (λ (o : Option ℕ). further (option_map_or (λ p. flag_line p ∷ []) o [])) at
    ∙ append-nil (10 ∷ flag_line place)
