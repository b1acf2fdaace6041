-- What the cut asks of the tokens before a place, told step by step.
use Rattle.std.proofs.Common.{◌≡◌, ℕ, zero, suc, ◌+◌, ◌<◌, ◌≤◌, Bool, true, false, ◌&&◌, cond, List, [], ◌∷◌, ◌++◌, length, take, slice_get, Some, refl, ap, ◌∙◌, arith}
use Rattle.std.proofs.lemmas.List.{take-append-le}
use Rattle.std.proofs.lemmas.List.Sums.{sum_by_push}
use Rattle.std.proofs.Math.Seq.{take-append_seam}
use Rattle.std.specs.List.{count_by}
use Rattle.snl_grammar.specs.declared.marks.Mark.{Mark}
use Rattle.snl_grammar.specs.Items.{greatest_below, is_after, is_close_paren, is_open, last_of, level, opened_by_paren, raises, some_is}

pub get_seam : (k l : List Mark) → slice_get (k ++ l) (length k) ≡ slice_get l 0
get_seam [] l = refl
get_seam (x ∷ k) l = get_seam k l

get_front : (k l : List Mark) (n : ℕ) → n < length k → slice_get (k ++ l) n ≡ slice_get k n
get_front [] l n h = absurd (omega (arith, h))
get_front (x ∷ k) l zero h = refl
get_front (x ∷ k) l (suc n) h = get_front k l n (omega (arith, h))

pub length_more : (k : List Mark) (x : Mark) → length (k ++ x ∷ []) ≡ suc (length k)
length_more [] x = refl
length_more (y ∷ k) x = ap (λ n. suc n) (length_more k x)

pub last_more : (first : Mark) (tail : List Mark) (x : Mark) → last_of first (tail ++ x ∷ []) ≡ x
last_more first [] x = refl
last_more first (y ∷ tail) x = last_more y tail x

last_there : (first : Mark) (tail : List Mark) → slice_get (first ∷ tail) (length tail) ≡ Some (last_of first tail)
last_there first [] = refl
last_there first (y ∷ tail) = last_there y tail

pub count_more : (p : Mark → Bool) (k : List Mark) (x : Mark) → count_by p (k ++ x ∷ []) ≡ count_by p k + cond (p x) 1 0
count_more p k x = sum_by_push (λ y. cond (p y) 1 0) k x

-- ---- the last brace that raised the balance from 0

greatest_within : (p : ℕ → Bool) (n : ℕ) → greatest_below p n ≤ n
greatest_within p zero = omega arith
greatest_within p (suc n) = by (p n) (greatest_within p n)
  where
    by : (b : Bool) → greatest_below p n ≤ n → cond b n (greatest_below p n) ≤ suc n
    by true within = omega arith
    by false within = omega (arith, within)

module _ (first : Mark) (tail : List Mark) (x : Mark) where
  abbrev k : List Mark
  k = first ∷ tail

  abbrev more : List Mark
  more = k ++ x ∷ []

  raises_same : (n : ℕ) → n < length k → raises more n ≡ raises k n
  raises_same n h =
      ap (λ l. level l && some_is is_open (slice_get more n)) (take-append-le n k (x ∷ []) (omega (arith, h)))
      ∙ ap (λ o. level (take n k) && some_is is_open o) (get_front k (x ∷ []) n h)

  greatest_same : (n : ℕ) → n ≤ length k → greatest_below (raises more) n ≡ greatest_below (raises k) n
  greatest_same zero h = refl
  greatest_same (suc n) h =
      ap (λ b. cond b n (greatest_below (raises more) n)) (raises_same n (omega (arith, h)))
      ∙ ap (λ g. cond (raises k n) n g) (greatest_same n (omega (arith, h)))

  after_same : (n : ℕ) → n ≤ length k → is_after is_close_paren more n ≡ is_after is_close_paren k n
  after_same zero h = refl
  after_same (suc n) h = ap (some_is is_close_paren) (get_front k (x ∷ []) n (omega (arith, h)))

  raises_here : raises more (length k) ≡ level k && is_open x
  raises_here =
      ap (λ l. level l && some_is is_open (slice_get more (length k))) (take-append_seam k (x ∷ []))
      ∙ ap (λ o. level k && some_is is_open o) (get_seam k (x ∷ []))

  opened_here : opened_by_paren more ≡ is_after is_close_paren more (cond (level k && is_open x) (length k) (greatest_below (raises more) (length k)))
  opened_here =
      ap (λ n. is_after is_close_paren more (greatest_below (raises more) n)) (length_more k x)
      ∙ ap (λ b. is_after is_close_paren more (cond b (length k) (greatest_below (raises more) (length k)))) raises_here

  -- a brace that raises it
  pub opened_now : level k && is_open x ≡ true → opened_by_paren more ≡ is_close_paren (last_of first tail)
  opened_now is =
      opened_here
      ∙ ap (λ b. is_after is_close_paren more (cond b (length k) (greatest_below (raises more) (length k)))) is
      ∙ ap (some_is is_close_paren) (get_front k (x ∷ []) (length tail) (omega arith) ∙ last_there first tail)

  -- any other token
  pub opened_before : level k && is_open x ≡ false → opened_by_paren more ≡ opened_by_paren k
  opened_before is =
      opened_here
      ∙ ap (λ b. is_after is_close_paren more (cond b (length k) (greatest_below (raises more) (length k)))) is
      ∙ ap (is_after is_close_paren more) (greatest_same (length k) (omega arith))
      ∙ after_same (greatest_below (raises k) (length k)) (greatest_within (raises k) (length k))
