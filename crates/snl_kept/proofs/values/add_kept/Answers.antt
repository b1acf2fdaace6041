use Rattle.std.proofs.Common.{arith, ◌≡◌, ℕ, zero, suc, ◌+◌, ◌-◌, ◌<◌, ◌≤◌, ◌++◌, ◌∷◌, [], List, length, map, take, drop, get_or, Some, None, ap, sym, ◌∙◌, append_assoc, length-drop, option_copied, Bor}
use Rattle.std.specs.List.{slice_get}
use Rattle.std.proofs.lemmas.List.{get_or-drop, map-append}
use Rattle.std.proofs.lemmas.Option.{slice_get-get_or}
use Rattle.snl_kept.proofs.Steps.{take_more}
use Rattle.snl_kept.proofs.values.add_kept.Goals as goal
use Rattle.snl_kept.proofs.values.add_kept.Goals.{in-Some+in_ok-push, in_default}
use Rattle.snl_facts.specs.Lists.{drop_here}

-- one more of the values from one number on
one_more : {X : Type 0} (values : List X) (from n : ℕ) (x : X) → from ≤ n → n < length values → Some x ≡ slice_get values n
    → take (n + 1 - from) (drop from values) ≡ take (n - from) (drop from values) ++ x ∷ []
one_more {X} values from n x le lt is =
    let said : Some x ≡ Some (get_or values n x) = is ∙ slice_get-get_or values n x lt in
    let there : from + (n - from) ≡ n = omega arith in
    let here : x ≡ get_or values n x = cc in
    let same : x ≡ get_or (drop from values) (n - from) x = here ∙ sym (get_or-drop from values (n - from) x ∙ ap (λ (k : ℕ). get_or values k x) there) in
    let within : n - from < length (drop from values) = omega (arith, length-drop from values) in
    let more : n + 1 - from ≡ n - from + 1 = omega arith in
    ap (λ (k : ℕ). take k (drop from values)) more ∙ take_more (drop from values) (n - from) x (drop_here (drop from values) (n - from) x within same)

-- there is a value with each of their numbers
none_missing : {X : Type 0} (values : List X) (n : ℕ) → n < length values → None ≡ slice_get values n → ⊥
none_missing [] n lt is = omega arith
none_missing (x ∷ xs) zero lt is = cc
none_missing (x ∷ xs) (suc n) lt is = none_missing xs n (omega arith) is

-- one more value is looked at
pushed_on : {X : Type 0} (all items : List (Bor X)) (v : Bor X) (before some more : List X) → items ≡ all ++ v ∷ [] → map (λ (w : Bor X). w.now) all ≡ before ++ some → more ≡ some ++ v.now ∷ []
    → map (λ (w : Bor X). w.now) items ≡ before ++ more
pushed_on {X} all items v before some more pushed is longer =
    ap (map (λ (w : Bor X). w.now)) pushed
    ∙ map-append (λ (w : Bor X). w.now) all (v ∷ [])
    ∙ ap (λ (l : List X). l ++ v.now ∷ []) is
    ∙ append_assoc before some (v.now ∷ [])
    ∙ ap (λ (l : List X). before ++ l) (sym longer)

pub loop-number-preserved : goal.loop-number-preserved
loop-number-preserved g c =
    let values = c.args.kept.now.values in
    let from = c.args.from in
    let n = c.loop-number.number in
    let lt : n < length values = omega (arith, c.loop-number-test.true, c.requires.inside) in
    let le : from ≤ n = c.loop-number.auto.number in
    elim c.match-get.branch [
      | in-Some+in_ok-push w ↦
          rw w.values-is
          (pushed_on _ _ w.in-Some.value _ _ _ w.in_ok-push.ensures.items c.loop-number.invariant (one_more values from n w.in-Some.value.now le lt (sym (ap option_copied w.in-Some.is) ∙ c.get.ensures)))
      | in_default w ↦ absurd (none_missing values n lt (sym (ap option_copied w.in_default.is) ∙ c.get.ensures))
    ]
