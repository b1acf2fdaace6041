use Rattle.std.proofs.Common.{◌≡◌, ℕ, ◌+◌, ◌++◌, Bool, true, false, cond, List, [], ◌∷◌, take, get_or, rules, sym, ap, ◌∙◌, arith}
use Rattle.std.proofs.lemmas.List.{append-nil}
use Rattle.snl_lex.specs.declared.piece.Class.{Class}
use Rattle.snl_lex.specs.declared.piece.Class.TheVariants.{White}
use Rattle.snl_lex.specs.PieceList.{is_token_class}
use Rattle.snl_items.specs.Places.{token_places}
use Rattle.snl_items.proofs.Places.{place_more}
use Rattle.snl_items.proofs.numbered_tokens.with_places.Goals as goal
use Rattle.snl_items.proofs.numbered_tokens.with_places.Goals.{then-is_token, else-is_token}

pub loop-number-preserved : goal.loop-number-preserved
loop-number-preserved c =
    let kinds : List Class = c.args.kinds.now in
    let n : ℕ = c.loop-number.number in
    let so_far : List ℕ = token_places 0 (take n kinds) in
    let next : (t : Bool) → t ≡ is_token_class (get_or kinds n White) → so_far ++ cond t (n ∷ []) [] ≡ token_places 0 (take (n + 1) kinds) =
    λ t is. ap (λ (b : Bool). so_far ++ cond b (n ∷ []) []) is ∙ sym (place_more kinds n White (omega arith)) in
    record {
      places =
          elim c.if-is_token.branch [
            | then-is_token w ↦
                ap (λ v. v.items) w.places-is ∙ w.push_reserved.ensures.items ∙ ap (λ (l : List ℕ). l ++ n ∷ []) c.loop-number.invariant.places
                ∙ next true (sym w.if-is_token.true ∙ c.is_token.ensures)
            | else-is_token w ↦
                ap (λ v. v.items) w.places-is ∙ c.loop-number.invariant.places ∙ sym (append-nil so_far)
                ∙ next false (sym w.if-is_token.false ∙ c.is_token.ensures)
          ];
      few = search rules;
      capacity = search rules;
    }
