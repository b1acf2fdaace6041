-- Rows of state sets that are known: the next one is that of the next item that begins a state set.
use Rattle.std.proofs.Common.{◌≡◌, ℕ, zero, suc, ◌+◌, ◌-◌, ◌<◌, Bool, true, false, Bor, List, [], ◌∷◌, ◌++◌, length, map, take, slice_get, Option, None, Some, IfSome, is_some, get_or, nat_lt, if◌then◌else◌, refl, sym, ap, ◌∙◌, arith, append-nil, append_assoc}
use Rattle.std.proofs.lemmas.Bool.{ltb-true}
use Rattle.std.proofs.lemmas.List.{map-append}
use Rattle.std.proofs.lemmas.Option.{slice_get-get_or}
use Rattle.snl_scope.specs.Below.{all_below}
use Rattle.snl_check.specs.SetsLaws.{numbers_first}

seam : {A : Type 0} (xs : List A) (y : A) (ys : List A) → slice_get (xs ++ y ∷ ys) (length xs) ≡ Some y
seam [] y ys = refl
seam (x ∷ xs) y ys = seam xs y ys

got_taken : {A : Type 0} (n : ℕ) (xs : List A) (i : ℕ) (x : A) → slice_get (take n xs) i ≡ Some x → slice_get xs i ≡ Some x
got_taken zero xs i x h = absurd cc
got_taken (suc n) [] i x h = absurd cc
got_taken (suc n) (y ∷ ys) zero x h = h
got_taken (suc n) (y ∷ ys) (suc i) x h = got_taken n ys i x h

-- what is made of the numbers below n that pass a test
module _ {A : Type 0} (p : ℕ → Bool) (make : ℕ → A) where
  next_is : (known : List A) (item n : ℕ) (row : A) → item < n → p item ≡ true → known ≡ take (length known) (map make (all_below p n)) →
      slice_get known (length (map make (all_below p item))) ≡ Some row → row ≡ make item
  next_is known item n row within pass are got =
      let before = all_below p item in
      let at = length (map make before) in
      let more = numbers_first p (suc item) (n - suc item) in
      let whole : suc item + (n - suc item) ≡ n = omega (arith, within) in
      let all : all_below p n ≡ before ++ (item ∷ more.0) =
      ap (all_below p) (sym whole) ∙ more.1 ∙ ap (λ (b : Bool). (before ++ (if b then item ∷ [] else [])) ++ more.0) pass ∙ append_assoc before (item ∷ []) more.0 in
      let here : slice_get (map make (all_below p n)) at ≡ Some (make item) =
      ap (λ (l : List ℕ). slice_get (map make l) at) all ∙ ap (λ (l : List A). slice_get l at) (map-append make before (item ∷ more.0)) ∙ seam (map make before) (make item) (map make more.0) in
      let there : slice_get (map make (all_below p n)) at ≡ Some row =
      got_taken (length known) (map make (all_below p n)) at row (sym (ap (λ (l : List A). slice_get l at) are) ∙ got) in
      let same : Some row ≡ Some (make item) = sym there ∙ here in
      cc

  -- the one that is known after those that are made, if there is one
  pub next_known : (known : List A) (item n at : ℕ) (row : Option (Bor A)) → item < n → p item ≡ true → known ≡ take (length known) (map make (all_below p n)) →
      at ≡ length (map make (all_below p item)) → is_some row ≡ nat_lt at (length known) → IfSome row (λ r. r.now ≡ get_or known at r.now) → IfSome row (λ r. r.now ≡ make item)
  next_known known item n at None within pass are so_many some got = tt
  next_known known item n at (Some row) within pass are so_many some got =
      next_is known item n row.now within pass are
      (ap (slice_get known) (sym so_many) ∙ slice_get-get_or known at row.now (ltb-true at (length known) (sym some)) ∙ ap Some (sym got))

  -- and one more
  pub one_more : (item : ℕ) → p item ≡ true → map make (all_below p item) ++ make item ∷ [] ≡ map make (all_below p (item + 1))
  one_more item pass =
      let next : suc item ≡ item + 1 = omega arith in
      sym (map-append make (all_below p item) (item ∷ []))
      ∙ ap (λ (b : Bool). map make (all_below p item ++ (if b then item ∷ [] else []))) (sym pass)
      ∙ ap (λ n. map make (all_below p n)) next

  pub no_more : (item : ℕ) → p item ≡ false → map make (all_below p item) ≡ map make (all_below p (item + 1))
  no_more item pass =
      let next : suc item ≡ item + 1 = omega arith in
      ap (map make) (sym (append-nil (all_below p item)))
      ∙ ap (λ (b : Bool). map make (all_below p item ++ (if b then item ∷ [] else []))) (sym pass)
      ∙ ap (λ n. map make (all_below p n)) next
