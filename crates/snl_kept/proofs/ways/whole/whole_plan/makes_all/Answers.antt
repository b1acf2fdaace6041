use Rattle.std.proofs.Common.{arith, ◌≡◌, ℕ, ◌-◌, List, [], ◌++◌, length, map, take, drop, sym, ap₂, ◌∙◌}
use Rattle.std.proofs.lemmas.List.{append-nil, drop_all}
use Rattle.snl_lex.specs.declared.piece.Piece.{Piece}

-- where no old one is kept, the made ones are all
pub all_made : (f : Piece → Piece) (front back : ℕ) (olds made news : List Piece) → front ≡ 0 → back ≡ 0 → news ≡ (take front olds ++ made) ++ map f (drop (length olds - back) olds) → made ≡ news
all_made f front back olds made news first last are =
    let none : drop (length olds - back) olds ≡ [] = drop_all (length olds - back) olds (omega (arith, last)) in
    sym (are ∙ ap₂ (λ (k : ℕ) (l : List Piece). (take k olds ++ made) ++ map f l) first none ∙ append-nil made)
