-- The leaves of what a tree spells: their numbers rise, since each is the number of its token.
use Rattle.std.proofs.Common.{◌≡◌, ℕ, suc, ◌+◌, ◌<◌, ◌≤◌, List, [], ◌∷◌, ◌++◌, length, map, Some, sym, subst, arith}
use Rattle.std.specs.List.{AllByRecursion as Each, flat_map}
use Rattle.snl_facts.specs.Each.{EachTwo, each_weaker}
use Rattle.snl_lex.specs.declared.kind.Kind.{Kind}
use Rattle.snl_grammar.specs.Spelling.Base.{Matches, Spelled, after, between, joined, leaf, word}
use Rattle.snl_grammar.specs.Tokens.{ahead, numbered}

-- The numbers are some of the leaves, in their order.
pub data AreLeaves : List ℕ → List Spelled → Type 0 where
  none : AreLeaves [] []
  past : {ns : List ℕ} {xs : List Spelled} (x : Spelled) → AreLeaves ns xs → AreLeaves ns (x ∷ xs)
  here : {ns : List ℕ} {xs : List Spelled} (k : Kind) (n : ℕ) → AreLeaves ns xs → AreLeaves (n ∷ ns) ((k, Some n) ∷ xs)

from_next : (m : ℕ) (ns : List ℕ) → Each (λ n. suc m ≤ n) ns → Each (λ n. m ≤ n) ns
from_next m = each_weaker (λ n. suc m ≤ n) (λ n. m ≤ n) (λ n h. omega (arith, h))

pub numbers_rise : {ns : List ℕ} {xs : List Spelled} → AreLeaves ns xs → (m : ℕ) (kinds : List Kind) → Matches xs (numbered m kinds) → Each (λ n. m ≤ n) ns × EachTwo (λ a b. a < b) ns
numbers_rise none m kinds h = (tt, tt)
numbers_rise (past x l) m [] h = absurd h
numbers_rise (past {ns} {xs} x l) m (q ∷ qs) h = let r : Each (λ n. suc m ≤ n) ns × EachTwo (λ a b. a < b) ns = numbers_rise l (suc m) qs h.1 in (from_next m ns r.0, r.1)
numbers_rise (here k n l) m [] h = absurd h
numbers_rise (here {ns} {xs} k n l) m (q ∷ qs) h =
    let r : Each (λ a. suc m ≤ a) ns × EachTwo (λ a b. a < b) ns = numbers_rise l (suc m) qs h.1 in
    let e : n ≡ m = h.0.1 in
    ((omega (arith, e), from_next m ns r.0), (subst (λ z. Each (λ a. z < a) ns) (sym e) r.0, r.1))

pub leaves_rise : (ns : List ℕ) (xs : List Spelled) (kinds : List Kind) → AreLeaves ns xs → Matches xs (ahead kinds 0) → EachTwo (λ a b. a < b) ns
unfolding ahead
leaves_rise ns xs kinds l h = (numbers_rise l 0 kinds h).1

-- of parts that follow one another
pub no_leaves : (xs : List Spelled) → AreLeaves [] xs
no_leaves [] = none
no_leaves (x ∷ xs) = past x (no_leaves xs)

pub leaves_after : (xs : List Spelled) {ns : List ℕ} {ys : List Spelled} → AreLeaves ns ys → AreLeaves ns (xs ++ ys)
leaves_after [] l = l
leaves_after (x ∷ xs) l = past x (leaves_after xs l)

pub leaves-append : {ns ms : List ℕ} {xs ys : List Spelled} → AreLeaves ns xs → AreLeaves ms ys → AreLeaves (ns ++ ms) (xs ++ ys)
leaves-append none m = m
leaves-append (past x l) m = past x (leaves-append l m)
leaves-append (here k n l) m = here k n (leaves-append l m)

pub leaves_before : {ns : List ℕ} {xs : List Spelled} (ys : List Spelled) → AreLeaves ns xs → AreLeaves ns (xs ++ ys)
leaves_before [] none = none
leaves_before (y ∷ ys) none = no_leaves (y ∷ ys)
leaves_before ys (past x l) = past x (leaves_before ys l)
leaves_before ys (here k n l) = here k n (leaves_before ys l)

pub one_leaf : (k : Kind) (n : ℕ) → AreLeaves (n ∷ []) (leaf k n)
one_leaf k n = here k n none

-- of what is made of the members of a list, which follow one another
module _ {A B : Type 0} (found : List B → List ℕ) (none_found : found [] ≡ []) (found-append : (bs cs : List B) → found (bs ++ cs) ≡ found bs ++ found cs)
    (f : A → List B) (spell : A → List Spelled) (each : (x : A) → AreLeaves (found (f x)) (spell x)) where
  pub leaves_after_each : (k : Kind) (xs : List A) → AreLeaves (found (flat_map f xs)) (after k (map spell xs))
  leaves_after_each k [] = subst (λ ns. AreLeaves ns []) (sym none_found) none
  leaves_after_each k (x ∷ xs) =
      subst (λ ns. AreLeaves ns (word k ++ spell x ++ after k (map spell xs))) (sym (found-append (f x) (flat_map f xs))) (leaves-append (leaves_after (word k) (each x)) (leaves_after_each k xs))

  pub leaves_between : (k : Kind) (xs : List A) → AreLeaves (found (flat_map f xs)) (between k (map spell xs))
  leaves_between k [] = subst (λ ns. AreLeaves ns []) (sym none_found) none
  leaves_between k (x ∷ xs) =
      subst (λ ns. AreLeaves ns (spell x ++ after k (map spell xs))) (sym (found-append (f x) (flat_map f xs))) (leaves-append (each x) (leaves_after_each k xs))

  pub leaves_joined : (xs : List A) → AreLeaves (found (flat_map f xs)) (joined (map spell xs))
  leaves_joined [] = subst (λ ns. AreLeaves ns []) (sym none_found) none
  leaves_joined (x ∷ xs) =
      subst (λ ns. AreLeaves ns (spell x ++ joined (map spell xs))) (sym (found-append (f x) (flat_map f xs))) (leaves-append (each x) (leaves_joined xs))

-- leaves are tokens
leaves_below : {ns : List ℕ} {xs : List Spelled} → AreLeaves ns xs → (m : ℕ) (kinds : List Kind) → Matches xs (numbered m kinds) → Each (λ n. n < m + length kinds) ns
leaves_below none m kinds h = tt
leaves_below (past x l) m [] h = absurd h
leaves_below (past {ns} {xs} x l) m (q ∷ qs) h = each_weaker (λ n. n < suc m + length qs) (λ n. n < m + suc (length qs)) (λ n below. omega (arith, below)) ns (leaves_below l (suc m) qs h.1)
leaves_below (here k n l) m [] h = absurd h
leaves_below (here {ns} {xs} k n l) m (q ∷ qs) h =
    let at : n ≡ m = h.0.1 in
    (omega (arith, at), each_weaker (λ n. n < suc m + length qs) (λ n. n < m + suc (length qs)) (λ n below. omega (arith, below)) ns (leaves_below l (suc m) qs h.1))

pub below_count : (ns : List ℕ) (xs : List Spelled) (kinds : List Kind) → AreLeaves ns xs → Matches xs (ahead kinds 0) → Each (λ n. n < length kinds) ns
unfolding ahead
below_count ns xs kinds l h = each_weaker (λ n. n < 0 + length kinds) (λ n. n < length kinds) (λ n below. omega (arith, below)) ns (leaves_below l 0 kinds h)
