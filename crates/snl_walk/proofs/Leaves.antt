-- The leaves of what a tree spells: their numbers rise, since each is the number of its token.
use Rattle.std.proofs.Common.{◌≡◌, ℕ, suc, ◌+◌, ◌<◌, ◌≤◌, Bool, true, false, List, [], ◌∷◌, ◌++◌, length, map, slice_get, Some, ap, sym, ◌∙◌, subst, true≢false, arith}
use Rattle.std.specs.List.{AllByRecursion as Each, flat_map}
use Rattle.snl_lex.specs.declared.kind.Kind.{Kind}
use Rattle.snl_lex.specs.declared.kind.Kind.TheVariants as kind
use Rattle.snl_grammar.specs.Spelling.Base.{Matches, Spelled, after, between, in_parens, joined, word}
use Rattle.snl_grammar.specs.Tokens.{ahead, numbered}
use Rattle.snl_facts.specs.Each.{EachTwo, each_weaker}

-- a subscript that begins with an integer
abbrev pub BeginsIndex : List Spelled → Type 0
BeginsIndex (a ∷ b ∷ xs) = b.0 ≡ kind.Integer
BeginsIndex _ = ⊥

pub begins_more : (xs zs : List Spelled) → BeginsIndex xs → BeginsIndex (xs ++ zs)
begins_more [] zs h = absurd h
begins_more (a ∷ []) zs h = absurd h
begins_more (a ∷ b ∷ xs) zs h = h

-- What is found is at some of the leaves, in their order. `at` says at which number each is, and
-- `indexed` whether a subscript that is an integer alone follows it.
pub data AreLeaves {A : Type 0} (at : A → ℕ) (indexed : A → Bool) : List A → List Spelled → Type 0 where
  none : AreLeaves at indexed [] []
  past : {ys : List A} {xs : List Spelled} (x : Spelled) → AreLeaves at indexed ys xs → AreLeaves at indexed ys (x ∷ xs)
  here : {ys : List A} {xs : List Spelled} (k : Kind) (y : A) → (indexed y ≡ true → BeginsIndex xs) → AreLeaves at indexed ys xs → AreLeaves at indexed (y ∷ ys) ((k, Some (at y)) ∷ xs)

second_is : (xs : List Spelled) (m : ℕ) (kinds : List Kind) → BeginsIndex xs → Matches xs (numbered m kinds) → slice_get kinds 1 ≡ Some kind.Integer
second_is [] m kinds begins h = absurd begins
second_is (a ∷ []) m kinds begins h = absurd begins
second_is (a ∷ b ∷ xs) m [] begins h = absurd h
second_is (a ∷ b ∷ xs) m (p ∷ []) begins h = absurd h.1
second_is (a ∷ b ∷ xs) m (p ∷ q ∷ qs) begins h = ap (λ (k : Kind). Some k) (sym h.1.0.0 ∙ begins)

module _ {A : Type 0} (at : A → ℕ) (indexed : A → Bool) where
  from_next : (m : ℕ) (ns : List ℕ) → Each (λ n. suc m ≤ n) ns → Each (λ n. m ≤ n) ns
  from_next m = each_weaker (λ n. suc m ≤ n) (λ n. m ≤ n) (λ n h. omega (arith, h))

  numbers_rise : {ys : List A} {xs : List Spelled} → AreLeaves at indexed ys xs → (m : ℕ) (kinds : List Kind) → Matches xs (numbered m kinds) → Each (λ n. m ≤ n) (map at ys) × EachTwo (λ a b. a < b) (map at ys)
  numbers_rise none m kinds h = (tt, tt)
  numbers_rise (past x l) m [] h = absurd h
  numbers_rise (past {ys} {xs} x l) m (q ∷ qs) h =
      let r : Each (λ n. suc m ≤ n) (map at ys) × EachTwo (λ a b. a < b) (map at ys) = numbers_rise l (suc m) qs h.1 in
      (from_next m (map at ys) r.0, r.1)
  numbers_rise (here k y f l) m [] h = absurd h
  numbers_rise (here {ys} {xs} k y f l) m (q ∷ qs) h =
      let r : Each (λ n. suc m ≤ n) (map at ys) × EachTwo (λ a b. a < b) (map at ys) = numbers_rise l (suc m) qs h.1 in
      let e : at y ≡ m = h.0.1 in
      ((omega (arith, e), from_next m (map at ys) r.0), (subst (λ z. Each (λ a. z < a) (map at ys)) (sym e) r.0, r.1))

  pub leaves_rise : (ys : List A) (xs : List Spelled) (kinds : List Kind) → AreLeaves at indexed ys xs → Matches xs (ahead kinds 0) → EachTwo (λ a b. a < b) (map at ys)
  unfolding ahead
  leaves_rise ys xs kinds l h = (numbers_rise l 0 kinds h).1

  numbers_below : {ys : List A} {xs : List Spelled} → AreLeaves at indexed ys xs → (m : ℕ) (kinds : List Kind) → Matches xs (numbered m kinds) → Each (λ n. n < m + length kinds) (map at ys)
  numbers_below none m kinds h = tt
  numbers_below (past x l) m [] h = absurd h
  numbers_below (past {ys} {xs} x l) m (q ∷ qs) h =
      each_weaker (λ n. n < suc m + length qs) (λ n. n < m + suc (length qs)) (λ n below. omega (arith, below)) (map at ys) (numbers_below l (suc m) qs h.1)
  numbers_below (here k y f l) m [] h = absurd h
  numbers_below (here {ys} {xs} k y f l) m (q ∷ qs) h =
      let e : at y ≡ m = h.0.1 in
      (omega (arith, e), each_weaker (λ n. n < suc m + length qs) (λ n. n < m + suc (length qs)) (λ n below. omega (arith, below)) (map at ys) (numbers_below l (suc m) qs h.1))

  pub leaves_below : (ys : List A) (xs : List Spelled) (kinds : List Kind) → AreLeaves at indexed ys xs → Matches xs (ahead kinds 0) → Each (λ n. n < length kinds) (map at ys)
  unfolding ahead
  leaves_below ys xs kinds l h = each_weaker (λ n. n < 0 + length kinds) (λ n. n < length kinds) (λ n below. omega (arith, below)) (map at ys) (numbers_below l 0 kinds h)

  -- the second token after one that is indexed
  abbrev SecondAfter : ℕ → List Kind → A → Type 0
  SecondAfter m kinds y = indexed y ≡ true → (j : ℕ) × (at y ≡ m + j) × (slice_get kinds (j + 2) ≡ Some kind.Integer)

  from_rest : (m : ℕ) (q : Kind) (qs : List Kind) (y : A) → SecondAfter (suc m) qs y → SecondAfter m (q ∷ qs) y
  from_rest m q qs y h e =
      let w : (j : ℕ) × (at y ≡ suc m + j) × (slice_get qs (j + 2) ≡ Some kind.Integer) = h e in
      let next : suc (w.0 + 2) ≡ suc w.0 + 2 = omega arith in
      (suc w.0, omega (arith, w.1), subst (λ n. slice_get (q ∷ qs) n ≡ Some kind.Integer) next w.2)

  seconds : {ys : List A} {xs : List Spelled} → AreLeaves at indexed ys xs → (m : ℕ) (kinds : List Kind) → Matches xs (numbered m kinds) → Each (SecondAfter m kinds) ys
  seconds none m kinds h = tt
  seconds (past x l) m [] h = absurd h
  seconds (past {ys} {xs} x l) m (q ∷ qs) h = each_weaker (SecondAfter (suc m) qs) (SecondAfter m (q ∷ qs)) (from_rest m q qs) ys (seconds l (suc m) qs h.1)
  seconds (here k y f l) m [] h = absurd h
  seconds (here {ys} {xs} k y f l) m (q ∷ qs) h =
      let e : at y ≡ m = h.0.1 in
      ((λ i. (0, omega (arith, e), second_is xs (suc m) qs (f i) h.1)), each_weaker (SecondAfter (suc m) qs) (SecondAfter m (q ∷ qs)) (from_rest m q qs) ys (seconds l (suc m) qs h.1))

  pub second_tokens : (ys : List A) (xs : List Spelled) (kinds : List Kind) → AreLeaves at indexed ys xs → Matches xs (ahead kinds 0) → Each (λ y. indexed y ≡ true → slice_get kinds (at y + 2) ≡ Some kind.Integer) ys
  unfolding ahead
  second_tokens ys xs kinds l h =
      each_weaker (SecondAfter 0 kinds) (λ y. indexed y ≡ true → slice_get kinds (at y + 2) ≡ Some kind.Integer) (λ y w e. from_zero y (w e)) ys (seconds l 0 kinds h)
    where
      from_zero : (y : A) → (j : ℕ) × (at y ≡ 0 + j) × (slice_get kinds (j + 2) ≡ Some kind.Integer) → slice_get kinds (at y + 2) ≡ Some kind.Integer
      from_zero y w = let same : w.0 ≡ at y = omega (arith, w.1) in subst (λ n. slice_get kinds (n + 2) ≡ Some kind.Integer) same w.2

-- of parts that follow one another
pub no_leaves : {A : Type 0} {at : A → ℕ} {indexed : A → Bool} (xs : List Spelled) → AreLeaves at indexed [] xs
no_leaves [] = none
no_leaves (x ∷ xs) = past x (no_leaves xs)

pub leaves_after : {A : Type 0} {at : A → ℕ} {indexed : A → Bool} {ys : List A} {zs : List Spelled} (xs : List Spelled) → AreLeaves at indexed ys zs → AreLeaves at indexed ys (xs ++ zs)
leaves_after [] l = l
leaves_after (x ∷ xs) l = past x (leaves_after xs l)

pub leaves-append : {A : Type 0} {at : A → ℕ} {indexed : A → Bool} {ys zs : List A} {xs ws : List Spelled} → AreLeaves at indexed ys xs → AreLeaves at indexed zs ws → AreLeaves at indexed (ys ++ zs) (xs ++ ws)
leaves-append none m = m
leaves-append (past x l) m = past x (leaves-append l m)
leaves-append {ws = ws} (here {ys} {xs} k y f l) m = here k y (λ e. begins_more xs ws (f e)) (leaves-append l m)

pub leaves_before : {A : Type 0} {at : A → ℕ} {indexed : A → Bool} {ys : List A} {xs : List Spelled} (zs : List Spelled) → AreLeaves at indexed ys xs → AreLeaves at indexed ys (xs ++ zs)
leaves_before zs none = no_leaves zs
leaves_before zs (past x l) = past x (leaves_before zs l)
leaves_before zs (here {ys} {xs} k y f l) = here k y (λ e. begins_more xs zs (f e)) (leaves_before zs l)

pub one_leaf : {A : Type 0} {at : A → ℕ} {indexed : A → Bool} (k : Kind) (y : A) → indexed y ≡ false → AreLeaves at indexed (y ∷ []) ((k, Some (at y)) ∷ [])
one_leaf k y plain = here k y (λ e. absurd (true≢false (sym e ∙ plain))) none

pub leaves_in_parens : {A : Type 0} {at : A → ℕ} {indexed : A → Bool} {ys : List A} {xs : List Spelled} → AreLeaves at indexed ys xs → AreLeaves at indexed ys (in_parens xs)
leaves_in_parens l = leaves_after (word kind.OpenParen) (leaves_before (word kind.CloseParen) l)

-- of what is found in the members of a list, which follow one another
module _ {X A : Type 0} {at : A → ℕ} {indexed : A → Bool} (f : X → List A) (spell : X → List Spelled) (each : (x : X) → AreLeaves at indexed (f x) (spell x)) where
  leaves_after_each : (k : Kind) (xs : List X) → AreLeaves at indexed (flat_map f xs) (after k (map spell xs))
  leaves_after_each k [] = none
  leaves_after_each k (x ∷ xs) = leaves_after (word k) (leaves-append (each x) (leaves_after_each k xs))

  pub leaves_between : (k : Kind) (xs : List X) → AreLeaves at indexed (flat_map f xs) (between k (map spell xs))
  leaves_between k [] = none
  leaves_between k (x ∷ xs) = leaves-append (each x) (leaves_after_each k xs)

  pub leaves_joined : (xs : List X) → AreLeaves at indexed (flat_map f xs) (joined (map spell xs))
  leaves_joined [] = none
  leaves_joined (x ∷ xs) = leaves-append (each x) (leaves_joined xs)
