use Rattle.std.proofs.Common.{◌≡◌, ◌++◌, ◌∷◌, ◌∙◌, List, ℕ, OnOk, codes, flat_map, take, ap, subst, sym}
use Rattle.snl_questions.specs.declared.hovers.states.Waker.{Waker}
use Rattle.snl_questions.specs.Hover.{after_comma, more, most, waker_name}
use Rattle.snl_questions.proofs.Wakes.{all_said, five}
use Rattle.snl_questions.proofs.hovers.states.put_wakers.Goals as goal

pub returns : goal.returns
returns c =
    let says = waker_name c.args.text.now c.args.tables.now in
    let all : List Waker = c.args.all.now in
    let first : Waker = c.in-Some.first.now in
    let others : List Waker = c.in-Some.others.now in
    let are : take most all ≡ first ∷ others = sym c.first_of.ensures ∙ c.in-Some.ensures.cases.0 in
    let out : List ℕ = c.args.out.now.items in
    let rest : List ℕ = flat_map (λ x. after_comma (says x)) others in
    let dots : List ℕ = flat_map after_comma (more all) in
    let before = c.in_ok-put_others.ensures
    ∙ ap (λ (l : List ℕ). l ++ rest) (c.in_ok-put_waker.ensures
    ∙ ap (λ (l : List ℕ). l ++ says first) c.in_ok-extend_from_slice.ensures.items) in
    let whole = ap (λ (l : List ℕ). l ++ dots) before
    ∙ five out (codes "\nwakes on ") (says first) rest dots
    ∙ ap (λ (l : List ℕ). out ++ l) (sym (all_said says all first others are)) in
    subst (λ (l : List ℕ). OnOk c.put_more_names.result (c.put_more_names.new.out.items ≡ l)) whole
    c.put_more_names.ensures
