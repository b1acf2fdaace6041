-- How many of a list pass a test, where a part of it is replaced.
use Rattle.std.proofs.Common.{◌≡◌, ℕ, ◌+◌, ◌-◌, ◌≤◌, Bool, List, ◌++◌, take, drop, count_by, sym, ap, ◌∙◌, arith}
use Rattle.std.proofs.lemmas.List.{drop-drop, take-append-drop}
use Rattle.snl_lists.specs.Moves.{replaced}
use Rattle.snl_facts.specs.Counts.{count_append}

-- Before the part, in it and after it.
pub count_parted : {X : Type 0} (p : X → Bool) (xs : List X) (start stop : ℕ) → start ≤ stop
    → count_by p xs ≡ count_by p (take start xs) + (count_by p (take (stop - start) (drop start xs)) + count_by p (drop stop xs))
count_parted {X} p xs start stop order =
    let at : start + (stop - start) ≡ stop = omega (arith, order) in
    let rest : drop (stop - start) (drop start xs) ≡ drop stop xs = drop-drop (stop - start) start xs ∙ ap (λ (n : ℕ). drop n xs) at in
    ap (count_by p) (sym (take-append-drop start xs))
    ∙ (count_append p (take start xs) (drop start xs)
    ∙ ap (λ (n : ℕ). count_by p (take start xs) + n)
    (ap (count_by p) (sym (take-append-drop (stop - start) (drop start xs)))
    ∙ (count_append p (take (stop - start) (drop start xs)) (drop (stop - start) (drop start xs))
    ∙ ap (λ (l : List X). count_by p (take (stop - start) (drop start xs)) + count_by p l) rest)))

pub count_replaced : {X : Type 0} (p : X → Bool) (xs : List X) (start stop : ℕ) (made : List X)
    → count_by p (replaced xs start stop made) ≡ count_by p (take start xs) + (count_by p made + count_by p (drop stop xs))
count_replaced p xs start stop made =
    count_append p (take start xs) (made ++ drop stop xs) ∙ ap (λ (n : ℕ). count_by p (take start xs) + n) (count_append p made (drop stop xs))
