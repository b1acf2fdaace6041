-- What is found in a part of an item, token by token along what that part spells.
use Rattle.std.proofs.Common.{◌≡◌, ℕ, Bool, true, false, not, ◌&&◌, ◌||◌, List, [], ◌∷◌, ◌++◌, map, Option, Some, None, is_some, refl}
use Rattle.std.specs.List.{flat_map}
use Rattle.snl_lex.specs.declared.kind.Kind.{Kind}
use Rattle.snl_lex.specs.declared.kind.Kind.TheVariants as kind
use Rattle.snl_grammar.specs.Spelling.Base.{Spelled, after, between, in_braces, in_brackets, in_parens, joined, word}
use Rattle.snl_item_laws.specs.Mentions.{hides, is_name, is_state, jumps}

-- what is at a token
pub data Sort : Type 0 where
  a_name : Sort
  a_jump : Sort
  a_change : Sort
  a_target : Sort

-- Which statements `state NAME;` there are: those that lead on and those that don't; and whether
-- names may be passed over.
pub data Case : Type 0 where
  leading : Case
  staying : Case
  passing : Case

-- a token at which nothing is found, and after which a name is looked up
abbrev pub is_quiet : Kind → Bool
is_quiet k = not (is_name k || jumps k || is_state k || hides k)

abbrev pub may_pass : Spelled → Bool
may_pass x = not (jumps x.0 || (is_state x.0 && is_some x.1))

-- `at` says at which number what is found is, and `sort` what it is.
pub data AreTold {A : Type 0} (at : A → ℕ) (sort : A → Sort) (has : Case → Type 0) : List A → List Spelled → Type 0 where
  none : AreTold at sort has [] []
  quiet : {ys : List A} {xs : List Spelled} (k : Kind) (o : Option ℕ) → is_quiet k ≡ true → AreTold at sort has ys xs → AreTold at sort has ys ((k, o) ∷ xs)
  hidden : {ys : List A} {xs : List Spelled} (k : Kind) (n : ℕ) → hides k ≡ true → is_name k ≡ false → jumps k ≡ false → is_state k ≡ false → AreTold at sort has ys xs → AreTold at sort has ys ((k, None) ∷ (kind.Name, Some n) ∷ xs)
  name_here : {ys : List A} {xs : List Spelled} (y : A) → sort y ≡ a_name → AreTold at sort has ys xs → AreTold at sort has (y ∷ ys) ((kind.Name, Some (at y)) ∷ xs)
  jump_here : {ys : List A} {xs : List Spelled} (k : Kind) (y : A) → jumps k ≡ true → is_name k ≡ false → is_state k ≡ false → hides k ≡ false → sort y ≡ a_jump → AreTold at sort has ys xs → AreTold at sort has (y ∷ ys) ((k, Some (at y)) ∷ xs)
  stay_here : {ys : List A} {xs : List Spelled} (y : A) (n : ℕ) → has staying → sort y ≡ a_change → AreTold at sort has ys xs → AreTold at sort has (y ∷ ys) ((kind.State, Some (at y)) ∷ (kind.Name, Some n) ∷ xs)
  lead_here : {ys : List A} {xs : List Spelled} (y t : A) → has leading → sort y ≡ a_change → sort t ≡ a_target → AreTold at sort has ys xs → AreTold at sort has (y ∷ t ∷ ys) ((kind.State, Some (at y)) ∷ (kind.Name, Some (at t)) ∷ xs)
  target_here : {ys : List A} {xs : List Spelled} (t : A) → has leading → sort t ≡ a_target → AreTold at sort has ys xs → AreTold at sort has (t ∷ ys) ((kind.State, None) ∷ (kind.Name, Some (at t)) ∷ xs)
  passed : {ys : List A} {xs : List Spelled} (x : Spelled) → has passing → may_pass x ≡ true → AreTold at sort has ys xs → AreTold at sort has ys (x ∷ xs)

-- ---- parts that follow one another

pub told-append : {A : Type 0} {at : A → ℕ} {sort : A → Sort} {has : Case → Type 0} {ys zs : List A} {xs ws : List Spelled} → AreTold at sort has ys xs → AreTold at sort has zs ws → AreTold at sort has (ys ++ zs) (xs ++ ws)
told-append none m = m
told-append (quiet k o q l) m = quiet k o q (told-append l m)
told-append (hidden k n h e j s l) m = hidden k n h e j s (told-append l m)
told-append (name_here y is l) m = name_here y is (told-append l m)
told-append (jump_here k y j e s h is l) m = jump_here k y j e s h is (told-append l m)
told-append (stay_here y n p is l) m = stay_here y n p is (told-append l m)
told-append (lead_here y t p is to l) m = lead_here y t p is to (told-append l m)
told-append (target_here t p to l) m = target_here t p to (told-append l m)
told-append (passed x p e l) m = passed x p e (told-append l m)

module _ {A : Type 0} {at : A → ℕ} {sort : A → Sort} {has : Case → Type 0} where
  pub told_after : {ys : List A} {xs ws : List Spelled} → AreTold at sort has [] xs → AreTold at sort has ys ws → AreTold at sort has ys (xs ++ ws)
  told_after l m = told-append l m

  pub told_then : {ys : List A} {xs ws : List Spelled} → AreTold at sort has ys xs → AreTold at sort has [] ws → AreTold at sort has ys (xs ++ ws)
  told_then none m = m
  told_then (quiet k o q l) m = quiet k o q (told_then l m)
  told_then (hidden k n h e j s l) m = hidden k n h e j s (told_then l m)
  told_then (name_here y is l) m = name_here y is (told_then l m)
  told_then (jump_here k y j e s h is l) m = jump_here k y j e s h is (told_then l m)
  told_then (stay_here y n p is l) m = stay_here y n p is (told_then l m)
  told_then (lead_here y t p is to l) m = lead_here y t p is to (told_then l m)
  told_then (target_here t p to l) m = target_here t p to (told_then l m)
  told_then (passed x p e l) m = passed x p e (told_then l m)

  pub told_before : {ys : List A} {xs : List Spelled} (k : Kind) → is_quiet k ≡ true → AreTold at sort has ys xs → AreTold at sort has ys (xs ++ word k)
  told_before k q l = told_then l (quiet k None q none)

  pub told_in_parens : {ys : List A} {xs : List Spelled} → AreTold at sort has ys xs → AreTold at sort has ys (in_parens xs)
  told_in_parens l = quiet kind.OpenParen None refl (told_before kind.CloseParen refl l)

  pub told_in_brackets : {ys : List A} {xs : List Spelled} → AreTold at sort has ys xs → AreTold at sort has ys (in_brackets xs)
  told_in_brackets l = quiet kind.OpenBracket None refl (told_before kind.CloseBracket refl l)

  pub told_in_braces : {ys : List A} {xs : List Spelled} → AreTold at sort has ys xs → AreTold at sort has ys (in_braces xs)
  told_in_braces l = quiet kind.OpenBrace None refl (told_before kind.CloseBrace refl l)

  -- of what is found in the members of a list
  module _ {X : Type 0} (f : X → List A) (spell : X → List Spelled) (each : (x : X) → AreTold at sort has (f x) (spell x)) where
    told_after_each : (k : Kind) → is_quiet k ≡ true → (xs : List X) → AreTold at sort has (flat_map f xs) (after k (map spell xs))
    told_after_each k q [] = none
    told_after_each k q (x ∷ xs) = quiet k None q (told-append (each x) (told_after_each k q xs))

    pub told_between : (k : Kind) → is_quiet k ≡ true → (xs : List X) → AreTold at sort has (flat_map f xs) (between k (map spell xs))
    told_between k q [] = none
    told_between k q (x ∷ xs) = told-append (each x) (told_after_each k q xs)

    pub told_joined : (xs : List X) → AreTold at sort has (flat_map f xs) (joined (map spell xs))
    told_joined [] = none
    told_joined (x ∷ xs) = told-append (each x) (told_joined xs)

    pub told_flat : (xs : List X) → AreTold at sort has (flat_map f xs) (flat_map spell xs)
    told_flat [] = none
    told_flat (x ∷ xs) = told-append (each x) (told_flat xs)

  -- of parts in which nothing is found
  module _ {X : Type 0} (spell : X → List Spelled) (each : (x : X) → AreTold at sort has [] (spell x)) where
    silent_after : (k : Kind) → is_quiet k ≡ true → (xs : List X) → AreTold at sort has [] (after k (map spell xs))
    silent_after k q [] = none
    silent_after k q (x ∷ xs) = quiet k None q (told_after (each x) (silent_after k q xs))

    pub silent_between : (k : Kind) → is_quiet k ≡ true → (xs : List X) → AreTold at sort has [] (between k (map spell xs))
    silent_between k q [] = none
    silent_between k q (x ∷ xs) = told_after (each x) (silent_after k q xs)

    pub silent_joined : (xs : List X) → AreTold at sort has [] (joined (map spell xs))
    silent_joined [] = none
    silent_joined (x ∷ xs) = told_after (each x) (silent_joined xs)

  -- where more may be than is
  pub told_wider : {more : Case → Type 0} → ((c : Case) → has c → more c) → {ys : List A} {xs : List Spelled} → AreTold at sort has ys xs → AreTold at sort more ys xs
  told_wider f none = none
  told_wider f (quiet k o q l) = quiet k o q (told_wider f l)
  told_wider f (hidden k n h e j s l) = hidden k n h e j s (told_wider f l)
  told_wider f (name_here y is l) = name_here y is (told_wider f l)
  told_wider f (jump_here k y j e s h is l) = jump_here k y j e s h is (told_wider f l)
  told_wider f (stay_here y n p is l) = stay_here y n (f staying p) is (told_wider f l)
  told_wider f (lead_here y t p is to l) = lead_here y t (f leading p) is to (told_wider f l)
  told_wider f (target_here t p to l) = target_here t (f leading p) to (told_wider f l)
  told_wider f (passed x p e l) = passed x (f passing p) e (told_wider f l)
