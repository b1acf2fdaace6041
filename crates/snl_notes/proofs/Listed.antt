-- Phrases of a list, one after another.
use Rattle.std.proofs.Common.{◌≡◌, ℕ, suc, ◌+◌, ◌<◌, List, [], ◌∷◌, ◌++◌, get_or, length, map, take, sym, ap, ◌∙◌, append_assoc, arith}
use Rattle.std.proofs.Math.Seq.{length-take-le}
use Rattle.std.proofs.lemmas.List.{append-nil, length-map, map_more}
use Rattle.snl_notes.specs.Words.{listed_from, separator}

-- one phrase more comes after those that are there
pub listed_push : (ps : List (List ℕ)) (p : List ℕ) (i n : ℕ) → listed_from i n (ps ++ p ∷ []) ≡ listed_from i n ps ++ (separator (i + length ps) n ++ p)
listed_push [] p i n = append-nil (separator i n ++ p) ∙ ap (λ k. separator k n ++ p) (let same : i ≡ i + 0 = omega arith in same)
listed_push (q ∷ ps) p i n =
    let same : i + 1 + length ps ≡ i + suc (length ps) = omega arith in
    ap (λ l. separator i n ++ q ++ l) (listed_push ps p (i + 1) n ∙ ap (λ k. listed_from (i + 1) n ps ++ (separator k n ++ p)) same)
    ∙ sym (append_assoc (separator i n ++ q) (listed_from (i + 1) n ps) (separator (i + suc (length ps)) n ++ p))

-- a phrase more of a list that is read by an index
listed_more : {X : Type 0} (f : X → List ℕ) (xs : List X) (i n : ℕ) (d : X) → i < length xs → listed_from 0 n (map f (take (i + 1) xs)) ≡ listed_from 0 n (map f (take i xs)) ++ (separator i n ++ f (get_or xs i d))
listed_more f xs i n d lt =
    let count : 0 + length (map f (take i xs)) ≡ i = omega (arith, length-map (take i xs) f, length-take-le i xs (omega (arith, lt))) in
    ap (listed_from 0 n) (map_more f xs i d lt)
    ∙ listed_push (map f (take i xs)) (f (get_or xs i d)) 0 n
    ∙ ap (λ k. listed_from 0 n (map f (take i xs)) ++ (separator k n ++ f (get_or xs i d))) count

pub one_more : {X : Type 0} (f : X → List ℕ) (xs : List X) (i n : ℕ) (d : X) (old out new : List ℕ) → i < length xs → new ≡ out ++ (separator i n ++ f (get_or xs i d)) → out ≡ old ++ listed_from 0 n (map f (take i xs)) → new ≡ old ++ listed_from 0 n (map f (take (i + 1) xs))
one_more f xs i n d old out new lt put so_far =
    put
    ∙ ap (λ l. l ++ (separator i n ++ f (get_or xs i d))) so_far
    ∙ append_assoc old (listed_from 0 n (map f (take i xs))) (separator i n ++ f (get_or xs i d))
    ∙ ap (λ l. old ++ l) (sym (listed_more f xs i n d lt))
