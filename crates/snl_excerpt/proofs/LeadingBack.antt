-- Where the line of a place begins, by how many bytes of it are before the place.
use Rattle.std.proofs.Common.{◌≡◌, ◌≢◌, ℕ, suc, zero, ◌+◌, ◌-◌, ◌<◌, ◌≤◌, ◌⊎◌, inl, inr, List, [], ◌∷◌, length, take, drop, Bool, true, false, ◌==◌, cond, refl, sym, ap, ◌∙◌, subst, arith, length-take}
use Rattle.std.specs.Prelude.{All, slice_index}
use Rattle.std.proofs.lemmas.List.Elements.{All-cons, All-nil}
use Rattle.std.proofs.lemmas.Bool.Decides.{nat_tests}
use Rattle.snl_excerpt.specs.Columns.{bytes_before, column_of, counted_on}
use Rattle.snl_excerpt.specs.Safe.{LeadsBack}

abbrev NoFeed : List ℕ → Type 0
NoFeed [] = Unit {0}
NoFeed (x ∷ xs) = (x ≢ 10) × NoFeed xs

all_others : (xs : List ℕ) → NoFeed xs → All (λ b. b ≢ 10) xs
all_others [] h = All-nil (λ b. b ≢ 10)
all_others (x ∷ xs) h = All-cons (λ b. b ≢ 10) x xs h.0 (all_others xs h.1)

-- no line ends among the bytes, or the last one ends before so many
record Ends (xs : List ℕ) (count : ℕ) : Type 0 where
  few : count < length xs
  feed : slice_index xs (length xs - (count + 1)) ≡ 10
  rest : NoFeed (drop (length xs - count) xs)

abbrev Led : (before : ℕ) (xs : List ℕ) (count : ℕ) → Type 0
Led before xs count = ((count ≡ before + length xs) × NoFeed xs) ⊎ Ends xs count

-- a byte more in front of a line that ended
onto : (x : ℕ) (xs : List ℕ) (count : ℕ) → Ends xs count → Ends (x ∷ xs) count
onto x xs count e =
    let place : length (x ∷ xs) - (count + 1) ≡ suc (length xs - (count + 1)) = omega (arith, e.few) in
    let from : length (x ∷ xs) - count ≡ suc (length xs - count) = omega (arith, e.few) in
    record {
      few = omega (arith, e.few);
      feed = ap (slice_index (x ∷ xs)) place ∙ e.feed;
      rest = subst (λ (n : ℕ). NoFeed (drop n (x ∷ xs))) (sym from) e.rest;
    }

led_step : (before x : ℕ) (xs : List ℕ) (b : Bool) → (x == 10) ≡ b → Led 0 xs (counted_on 0 xs) → Led (before + 1) xs (counted_on (before + 1) xs) → Led before (x ∷ xs) (counted_on (cond b 0 (before + 1)) xs)
led_step before x xs true e anew on = by_rest anew
  where
    here : x ≡ 10
    here = grind (arith, nat_tests)

    by_rest : Led 0 xs (counted_on 0 xs) → Led before (x ∷ xs) (counted_on 0 xs)
    by_rest (inl h) =
        let few : counted_on 0 xs ≡ 0 + length xs = h.0 in
        let place : length (x ∷ xs) - (counted_on 0 xs + 1) ≡ zero = omega arith in
        let from : length (x ∷ xs) - counted_on 0 xs ≡ suc zero = omega arith in
        inr (record {
          few = omega arith;
          feed = ap (slice_index (x ∷ xs)) place ∙ here;
          rest = subst (λ (n : ℕ). NoFeed (drop n (x ∷ xs))) (sym from) h.1;
        })
    by_rest (inr ends) = inr (onto x xs (counted_on 0 xs) ends)
led_step before x xs false e anew on = by_rest on
  where
    other : x ≢ 10
    other = grind (arith, nat_tests)

    by_rest : Led (before + 1) xs (counted_on (before + 1) xs) → Led before (x ∷ xs) (counted_on (before + 1) xs)
    by_rest (inl h) = let few : counted_on (before + 1) xs ≡ (before + 1) + length xs = h.0 in inl (omega arith, (other, h.1))
    by_rest (inr ends) = inr (onto x xs (counted_on (before + 1) xs) ends)

led : (before : ℕ) (xs : List ℕ) → Led before xs (counted_on before xs)
led before [] = inl (omega arith, tt)
led before (x ∷ xs) = led_step before x xs (x == 10) refl (led 0 xs) (led (before + 1) xs)

lead : (text : List ℕ) (offset count : ℕ) → length (take offset text) ≡ offset → Led 0 (take offset text) count → LeadsBack text offset (count + 1)
lead text offset count size h = elim h [
  | inl h ↦ record {
    some = omega arith;
    inside = omega (arith, h.0);
    begins = inl (omega (arith, h.0));
    one_line = (let none : (offset + 1) - (count + 1) ≡ zero = omega (arith, h.0) in
        all_others _ (subst (λ (n : ℕ). NoFeed (drop n (take offset text))) (sym none) h.1));
  }
  | inr e ↦ record {
    some = omega arith;
    inside = omega (arith, e.few);
    begins = inr (ap (λ (n : ℕ). slice_index (take offset text) (n - (count + 1))) (sym size) ∙ e.feed);
    one_line = (let from : length (take offset text) - count ≡ (offset + 1) - (count + 1) = omega arith in
        all_others _ (subst (λ (n : ℕ). NoFeed (drop n (take offset text))) from e.rest));
  }
]

pub leads_back : (text : List ℕ) (offset : ℕ) → offset ≤ length text → LeadsBack text offset (column_of text offset)
unfolding bytes_before
leads_back text offset inside =
    let size : length (take offset text) ≡ offset = omega (arith, length-take offset text) in
    lead text offset (counted_on 0 (take offset text)) size (led 0 (take offset text))
