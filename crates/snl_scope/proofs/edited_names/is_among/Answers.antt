use Rattle.std.proofs.Common.{◌≡◌, ℕ, ◌||◌, Bool, List, [], ◌∷◌, map, Bor, refl, ap, ◌∙◌}
use Rattle.std.specs.List.{list_any}
use Rattle.std.specs.Str.{bytes_eq}
use Rattle.snl_scope.proofs.edited_names.is_among.Goals as goal

-- a test of what references point to
any_now : (name : List ℕ) (names : List (Bor (List ℕ))) → list_any (λ n. bytes_eq name n.now) names ≡ list_any (bytes_eq name) (map (λ n. n.now) names)
any_now name [] = refl
any_now name (n ∷ rest) = ap (λ (b : Bool). bytes_eq name n.now || b) (any_now name rest)

pub returns : goal.returns
returns c = c.has_equal.ensures ∙ any_now c.args.name.now c.args.names.now
