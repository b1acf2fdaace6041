use Rattle.std.proofs.Common.{◌≡◌, ◌++◌, ◌∷◌, ◌∙◌, ℕ, List, [], codes, length, refl, sym, ap, append_assoc, arith}
use Rattle.std.specs.List.{flat_map}
use Rattle.snl_say.specs.Publish.{Found, after_comma, item_text, items_text}
use Rattle.snl_say.proofs.PublishText.{items_first, items_none}
use Rattle.snl_say.proofs.written.put_items.Goals as goal

none_is : (xs : List Found) → length xs ≡ 0 → xs ≡ []
none_is [] h = refl
none_is (x ∷ xs) h = absurd (omega (arith, h))

pub returns-in_ok-put_rest-in-Some : goal.returns-in_ok-put_rest-in-Some
returns-in_ok-put_rest-in-Some c =
    let first : Found = c.in-Some.first.now in
    let rest : List Found = c.in-Some.rest.now in
    let out : List ℕ = c.args.out.now.items in
    let tail : List ℕ = flat_map after_comma rest ++ codes "]" in
    let all_is : c.args.all.now ≡ first ∷ rest = c.in-Some.ensures.cases.0 in
    c.in_ok-put_rest-in-Some.ensures
    ∙ ap (λ (l : List ℕ). l ++ tail) (c.in_ok-extend_from_slice-in-Some.ensures.items ∙ ap (λ (l : List ℕ). out ++ l) c.text.ensures)
    ∙ append_assoc out (item_text first) tail
    ∙ ap (λ (l : List ℕ). out ++ l) (sym (items_first first rest))
    ∙ ap (λ (l : List Found). out ++ items_text l) (sym all_is)

pub returns-in_ok-extend_from_slice-in-None : goal.returns-in_ok-extend_from_slice-in-None
returns-in_ok-extend_from_slice-in-None c =
    let out : List ℕ = c.args.out.now.items in
    let none : c.args.all.now ≡ [] = none_is c.args.all.now c.in-None.ensures.cases in
    c.in_ok-extend_from_slice-in-None.ensures.items
    ∙ ap (λ (l : List ℕ). out ++ l) (sym items_none)
    ∙ ap (λ (l : List Found). out ++ items_text l) (sym none)
