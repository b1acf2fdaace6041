-- A loop that adds to a list: what was added, with what the rest gives, is what all of it gives.
use Rattle.std.proofs.Common.{◌≡◌, ℕ, ◌+◌, ◌<◌, List, [], ◌∷◌, ◌++◌, length, map, get_or, drop, refl, ap, sym, ◌∙◌, append_assoc, Bool, true, false, filter, cond}
use Rattle.std.proofs.lemmas.List.{drop_more, map-append}
use Rattle.std.specs.List.{flat_map}
use Rattle.snl_facts.specs.Lists.{drop_here}

-- what is added goes from what is left to what is there
pub taken : {B : Type 0} (ys zs own before after all : List B) → ys ++ before ≡ all → before ≡ own ++ after → zs ≡ ys ++ own → zs ++ after ≡ all
taken ys zs own before after all was split now = ap (λ l. l ++ after) now ∙ append_assoc ys own after ∙ ap (λ l. ys ++ l) (sym split) ∙ was

-- two parts that were added one after the other
pub two_more : {B : Type 0} (ys zs all first second : List B) → zs ≡ ys ++ first → all ≡ zs ++ second → all ≡ ys ++ (first ++ second)
two_more ys zs all first second one two = two ∙ ap (λ l. l ++ second) one ∙ append_assoc ys first second

pub one_more : {A B : Type 0} (gives : List A → List B) (own : A → List B) → ((x : A) (xs : List A) → gives (x ∷ xs) ≡ own x ++ gives xs) →
    (xs : List A) (i : ℕ) (x : A) (ys zs all : List B) → i < length xs → x ≡ get_or xs i x →
    ys ++ gives (drop i xs) ≡ all → zs ≡ ys ++ own x → zs ++ gives (drop (i + 1) xs) ≡ all
one_more gives own step xs i x ys zs all within at =
    λ was now. taken ys zs (own x) (gives (drop i xs)) (gives (drop (i + 1) xs)) all was (ap gives (drop_here xs i x within at) ∙ step x (drop (i + 1) xs)) now

pub one_more_of_each : {A B : Type 0} (own : A → List B) (xs : List A) (i : ℕ) (x : A) (ys zs all : List B) → i < length xs → x ≡ get_or xs i x →
    ys ++ flat_map own (drop i xs) ≡ all → zs ≡ ys ++ own x → zs ++ flat_map own (drop (i + 1) xs) ≡ all
one_more_of_each own = one_more (flat_map own) own (λ x xs. refl)

pub one_more_mapped : {A N B : Type 0} (see : N → B) (gives : List A → List N) (own : A → List N) → ((x : A) (xs : List A) → gives (x ∷ xs) ≡ own x ++ gives xs) →
    (xs : List A) (i : ℕ) (x : A) (ys zs all : List B) → i < length xs → x ≡ get_or xs i x →
    ys ++ map see (gives (drop i xs)) ≡ all → zs ≡ ys ++ map see (own x) → zs ++ map see (gives (drop (i + 1) xs)) ≡ all
one_more_mapped see gives own step =
    one_more (λ xs. map see (gives xs)) (λ x. map see (own x)) (λ x xs. ap (map see) (step x xs) ∙ map-append see (own x) (gives xs))

-- of a list of which some are left out, by the value at a number
module _ {A B : Type 0} (keeps : A → Bool) (see : A → B) where
  abbrev kept : List A → List B
  kept xs = map see (filter keeps xs)

  kept-cons : (x : A) (xs : List A) (b : Bool) → keeps x ≡ b → kept (x ∷ xs) ≡ cond b (see x ∷ kept xs) (kept xs)
  kept-cons x xs true e = ap (λ v. map see (cond v (x ∷ filter keeps xs) (filter keeps xs))) e
  kept-cons x xs false e = ap (λ v. map see (cond v (x ∷ filter keeps xs) (filter keeps xs))) e

  pub kept_next : (xs : List A) (i : ℕ) (d : A) → i < length xs → keeps (get_or xs i d) ≡ true → kept (drop i xs) ≡ see (get_or xs i d) ∷ kept (drop (i + 1) xs)
  kept_next xs i d within keeps_it = ap kept (drop_more xs i d within) ∙ kept-cons (get_or xs i d) (drop (i + 1) xs) true keeps_it

  pub kept_later : (xs : List A) (i : ℕ) (d : A) → i < length xs → keeps (get_or xs i d) ≡ false → kept (drop i xs) ≡ kept (drop (i + 1) xs)
  kept_later xs i d within keeps_not = ap kept (drop_more xs i d within) ∙ kept-cons (get_or xs i d) (drop (i + 1) xs) false keeps_not

  pub one_kept : (xs : List A) (i : ℕ) (d : A) (ys zs all : List B) → i < length xs → keeps (get_or xs i d) ≡ true →
      ys ++ kept (drop i xs) ≡ all → zs ≡ ys ++ see (get_or xs i d) ∷ [] → zs ++ kept (drop (i + 1) xs) ≡ all
  one_kept xs i d ys zs all within keeps_it =
      λ was now. taken ys zs (see (get_or xs i d) ∷ []) (kept (drop i xs)) (kept (drop (i + 1) xs)) all was (kept_next xs i d within keeps_it) now

  pub one_left_out : (xs : List A) (i : ℕ) (d : A) (ys zs all : List B) → i < length xs → keeps (get_or xs i d) ≡ false →
      ys ++ kept (drop i xs) ≡ all → zs ≡ ys → zs ++ kept (drop (i + 1) xs) ≡ all
  one_left_out xs i d ys zs all within keeps_not was same =
      ap (λ l. l ++ kept (drop (i + 1) xs)) same ∙ ap (λ l. ys ++ l) (sym (kept_later xs i d within keeps_not)) ∙ was
