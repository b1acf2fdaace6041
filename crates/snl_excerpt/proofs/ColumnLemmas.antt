-- Bytes of a line before a place are counted on from one before it.
use Rattle.std.proofs.Common.{◌≡◌, ℕ, ◌+◌, ◌-◌, ◌≤◌, List, [], ◌∷◌, ◌++◌, take, drop, refl, sym, ap, ◌∙◌, arith}
use Rattle.std.proofs.Math.Seq.{take-add}
use Rattle.snl_excerpt.specs.Columns.{bytes_before, counted, counted_on}

pub counted-append : (before : ℕ) (xs ys : List ℕ) → counted_on before (xs ++ ys) ≡ counted_on (counted_on before xs) ys
counted-append before [] ys = refl
counted-append before (x ∷ xs) ys = counted-append (counted before x) xs ys

-- from one place of a text to a later one
pub counted-between : (text : List ℕ) (from to before : ℕ) → from ≤ to → before ≡ bytes_before text from → counted_on before (take (to - from) (drop from text)) ≡ bytes_before text to
unfolding bytes_before
counted-between text from to before order h =
    let sum : from + (to - from) ≡ to = omega arith in
    let split : take (from + (to - from)) text ≡ take from text ++ take (to - from) (drop from text) = take-add from (to - from) text in
    ap (λ (n : ℕ). counted_on n (take (to - from) (drop from text))) h
    ∙ sym (counted-append 0 (take from text) (take (to - from) (drop from text)))
    ∙ ap (counted_on 0) (sym split)
    ∙ ap (λ (n : ℕ). counted_on 0 (take n text)) sum
