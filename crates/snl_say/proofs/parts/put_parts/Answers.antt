use Rattle.std.proofs.Common.{◌≡◌, ◌++◌, ◌∷◌, ◌∙◌, ℕ, List, [], length, refl, sym, ap, append_assoc, arith}
use Rattle.snl_place.specs.declared.places.Place.{Place}
use Rattle.snl_say.specs.Parts.{part_text, parts_after, parts_text}
use Rattle.snl_say.proofs.PartText.{parts_first, parts_none}
use Rattle.snl_say.proofs.parts.put_parts.Goals as goal

none_is : (xs : List (Place × Place)) → length xs ≡ 0 → xs ≡ []
none_is [] h = refl
none_is (x ∷ xs) h = absurd (omega (arith, h))

pub returns-in_ok-put_rest-in-Some : goal.returns-in_ok-put_rest-in-Some
returns-in_ok-put_rest-in-Some c =
    let first : Place × Place = c.in-Some.first.now in
    let rest : List (Place × Place) = c.in-Some.rest.now in
    let end : List ℕ = c.args.end.now in
    let out : List ℕ = c.args.out.now.items in
    let all_is : c.args.parts.now ≡ first ∷ rest = c.in-Some.ensures.cases.0 in
    c.in_ok-put_rest-in-Some.ensures
    ∙ ap (λ (l : List ℕ). l ++ parts_after end rest) c.in_ok-put_part-in-Some.ensures
    ∙ append_assoc out (part_text end first) (parts_after end rest)
    ∙ ap (λ (l : List ℕ). out ++ l) (sym (parts_first end first rest))
    ∙ ap (λ (l : List (Place × Place)). out ++ parts_text end l) (sym all_is)

pub returns-in_ok-extend_from_slice-in-None : goal.returns-in_ok-extend_from_slice-in-None
returns-in_ok-extend_from_slice-in-None c =
    let end : List ℕ = c.args.end.now in
    let out : List ℕ = c.args.out.now.items in
    let none : c.args.parts.now ≡ [] = none_is c.args.parts.now c.in-None.ensures.cases in
    c.in_ok-extend_from_slice-in-None.ensures.items
    ∙ ap (λ (l : List ℕ). out ++ l) (sym (parts_none end))
    ∙ ap (λ (l : List (Place × Place)). out ++ parts_text end l) (sym none)
