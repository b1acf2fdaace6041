-- Lemmas on the numbers of names: what one more is to a search from the front.
use Rattle.std.proofs.Common.{◌≡◌, ℕ, suc, ◌+◌, ◌≤◌, Bool, not, nat_lt, true, false, cond, List, [], ◌∷◌, ◌++◌, length, Option, None, Some, ◌||◌, refl, sym, ap, ◌∙◌, arith, add-zero, zero-add, if◌then◌else◌}
use Rattle.std.specs.List.{position, position_from, position_or_len}
use Rattle.std.specs.Option.{option_or}
use Rattle.std.specs.Str.{bytes_eq}
use borrow.Author.Tests.{lt-ltb, lt-leb}
use Rattle.std.proofs.lemmas.Slice.Eq.{bytes_eq-Decides}
use Rattle.snl_facts.specs.Positions.{position_push}
use Rattle.snl_facts.specs.Numbers.{lt_suc, zero_lt}
use Rattle.snl_scope.specs.Claims.{lesser}

-- the first place that passes, by a recursion that counts up
from_here : {A : Type 0} (p : A → Bool) (i : ℕ) (xs : List A)
    → position_from p i xs ≡ cond (nat_lt (position_or_len p xs) (length xs)) (Some (i + position_or_len p xs)) None
from_here p i [] = sym (ap (λ b. cond b (Some (i + 0)) None) (lt-leb 1 0 (omega arith)))
from_here p i (x ∷ xs) = by (p x) (from_here p (i + 1) xs)
  where
    by : (b : Bool) → position_from p (i + 1) xs ≡ cond (nat_lt (position_or_len p xs) (length xs)) (Some (i + 1 + position_or_len p xs)) None
        → cond b (Some i) (position_from p (i + 1) xs)
        ≡ cond (nat_lt (cond (not b) (1 + position_or_len p xs) 0) (suc (length xs))) (Some (i + cond (not b) (1 + position_or_len p xs) 0)) None
    by true h = ap Some (sym (add-zero i)) ∙ sym (ap (λ b. cond b (Some (i + 0)) None) (zero_lt (length xs)))
    by false h =
        let e : i + 1 + position_or_len p xs ≡ i + (1 + position_or_len p xs) = omega arith in
        h ∙ ap (λ n. cond (nat_lt (position_or_len p xs) (length xs)) (Some n) None) e
        ∙ ap (λ b. cond b (Some (i + (1 + position_or_len p xs))) None) (sym (lt_suc (position_or_len p xs) (length xs)))

position_is : {A : Type 0} (p : A → Bool) (xs : List A) → position p xs ≡ position_from p 0 xs
position_is p xs = sym (from_here p 0 xs ∙ ap (λ n. cond (nat_lt (position_or_len p xs) (length xs)) (Some n) None) (zero-add (position_or_len p xs)))

position_from-same : {A : Type 0} (p q : A → Bool) (i : ℕ) (xs : List A) → ((x : A) → p x ≡ q x) → position_from p i xs ≡ position_from q i xs
position_from-same p q i [] h = refl
position_from-same p q i (x ∷ xs) h =
    ap (λ b. cond b (Some i) (position_from p (i + 1) xs)) (h x) ∙ ap (cond (q x) (Some i)) (position_from-same p q (i + 1) xs h)

pub position-same : {A : Type 0} (p q : A → Bool) (xs : List A) → ((x : A) → p x ≡ q x) → position p xs ≡ position q xs
position-same p q xs h = position_is p xs ∙ position_from-same p q 0 xs h ∙ sym (position_is q xs)

from-within : {A : Type 0} (p : A → Bool) (i k : ℕ) (xs : List A) → position_from p i xs ≡ Some k → i ≤ k
from-within p i k [] h = absurd (cc)
from-within p i k (x ∷ xs) h = by (p x) (from-within p (i + 1) k xs) h
  where
    by : (b : Bool) → (position_from p (i + 1) xs ≡ Some k → i + 1 ≤ k) → cond b (Some i) (position_from p (i + 1) xs) ≡ Some k → i ≤ k
    by true g e = let same : i ≡ k = cc in omega (arith, same)
    by false g e = let more = g e in omega (arith, more)

from-either : {A : Type 0} (p q : A → Bool) (i : ℕ) (xs : List A) → lesser (position_from p i xs) (position_from q i xs) ≡ position_from (λ x. p x || q x) i xs
from-either p q i [] = refl
from-either p q i (x ∷ xs) = by (p x) (q x) (from-either p q (i + 1) xs)
  where
    same : (b : Bool) → (if b then Some i else Some i) ≡ Some i
    same true = refl
    same false = refl

    left : (o : Option ℕ) → ((k : ℕ) → o ≡ Some k → i + 1 ≤ k) → lesser (Some i) o ≡ Some i
    left None h = refl
    left (Some k) h = let more : i + 1 ≤ k = h k refl in ap (λ b. if b then Some k else Some i) (lt-leb (suc k) i (omega (arith, more)))

    right : (o : Option ℕ) → ((k : ℕ) → o ≡ Some k → i + 1 ≤ k) → lesser o (Some i) ≡ Some i
    right None h = refl
    right (Some k) h = let more : i + 1 ≤ k = h k refl in ap (λ b. if b then Some i else Some k) (lt-ltb i k (omega (arith, more)))

    by : (b c : Bool) → lesser (position_from p (i + 1) xs) (position_from q (i + 1) xs) ≡ position_from (λ y. p y || q y) (i + 1) xs
        → lesser (cond b (Some i) (position_from p (i + 1) xs)) (cond c (Some i) (position_from q (i + 1) xs))
        ≡ cond (b || c) (Some i) (position_from (λ y. p y || q y) (i + 1) xs)
    by true true h = same (nat_lt i i)
    by true false h = left (position_from q (i + 1) xs) (λ k e. from-within q (i + 1) k xs e)
    by false true h = right (position_from p (i + 1) xs) (λ k e. from-within p (i + 1) k xs e)
    by false false h = h

-- the first place at which one of two tests passes
pub position-either : {A : Type 0} (p q : A → Bool) (xs : List A) → lesser (position p xs) (position q xs) ≡ position (λ x. p x || q x) xs
position-either p q xs =
    ap (λ o. lesser o (position q xs)) (position_is p xs) ∙ ap (lesser (position_from p 0 xs)) (position_is q xs) ∙ from-either p q 0 xs
    ∙ sym (position_is (λ x. p x || q x) xs)

pub bytes_eq-same : (a : List ℕ) → bytes_eq a a ≡ true
bytes_eq-same a = (bytes_eq-Decides a a).1 refl

-- a new name comes last
pub name-new : (names : List (List ℕ)) (name : List ℕ) → None ≡ position (bytes_eq name) names → position (bytes_eq name) (names ++ name ∷ []) ≡ Some (length names)
name-new names name h =
    position_push (bytes_eq name) names name ∙ ap (λ o. option_or o (cond (bytes_eq name name) (Some (length names)) None)) (sym h)
    ∙ ap (λ b. cond b (Some (length names)) None) (bytes_eq-same name)
