-- The order of names.
use Rattle.std.proofs.Common.{◌≡◌, ℕ, ◌≤◌, true, false, nat_eq, nat_lt, List, refl, sym, ap, ◌∙◌, arith, inl, inr, true≢false}
use Rattle.std.specs.Cmp.{IsStrictWeakOrder, IsTotalOrder}
use Rattle.std.specs.Cmp.Lexicographic.{slice_cmp}
use Rattle.std.specs.Ordering.{is_lt, nat_cmp, ordering_reverse, ordering_then}
use Rattle.std.specs.declared.cmp.Ordering.{Ordering}
use Rattle.std.specs.declared.cmp.Ordering.TheVariants.{Less, Equal, Greater}
use Rattle.std.proofs.lemmas.Bool.{cases_Bool}
use Rattle.std.proofs.lemmas.Bool.Decides.{nat_tests}
use Rattle.std.proofs.lemmas.Cmp.{nat_cmp_total, nat_list_cmp_total, on_total, then_total}
use Rattle.std.proofs.lemmas.List.Sorted.{ranks_by}
use Rattle.std.proofs.lemmas.Map.Lookups.{exact_bytes}
use Rattle.snl_names.specs.Keys.{comes_before, name_cmp}
use Rattle.snl_names.specs.Prints.{print_of}

total : IsTotalOrder name_cmp
total = then_total (on_total print_of nat_cmp_total) nat_list_cmp_total

weak : IsStrictWeakOrder (λ x y. is_lt (name_cmp x y))
weak = ranks_by total (λ (x : List ℕ). x)

pub chain : (a b c : List ℕ) → comes_before a b ≡ false → comes_before b c ≡ false → comes_before a c ≡ false
unfolding comes_before
chain a b c = weak.chain a b c

pub one_way : (a b : List ℕ) → comes_before a b ≡ true → comes_before b a ≡ false
unfolding comes_before
one_way a b = weak.one_way a b

pub not_itself : (a : List ℕ) → comes_before a a ≡ false
not_itself a = elim (cases_Bool (comes_before a a)) [ inl before ↦ one_way a a before | inr after ↦ after ]

-- What no name comes before that comes before x comes before x as well.
pub earlier : (a b x : List ℕ) → comes_before b a ≡ false → comes_before b x ≡ true → comes_before a x ≡ true
earlier a b x h t =
    elim (cases_Bool (comes_before a x)) [
      | inl before ↦ before
      | inr after ↦ absurd (true≢false (sym t ∙ chain b a x h after))
    ]

-- ---- names that neither comes before the other

second_equal : (o p : Ordering) → ordering_then o p ≡ Equal → p ≡ Equal
second_equal Less p h = cc
second_equal Equal p h = h
second_equal Greater p h = cc

back_less : (o p : Ordering) → o ≡ Greater → p ≡ ordering_reverse o → is_lt p ≡ true
back_less o p h e = ap is_lt (e ∙ ap ordering_reverse h)

by_order : (a b : List ℕ) (o : Ordering) → name_cmp a b ≡ o → is_lt (name_cmp a b) ≡ false → is_lt (name_cmp b a) ≡ false → a ≡ b
by_order a b Less e h k = absurd (true≢false (sym (ap is_lt e) ∙ h))
by_order a b Equal e h k = exact_bytes a b (second_equal (nat_cmp (print_of a) (print_of b)) (slice_cmp nat_cmp a b) e)
by_order a b Greater e h k = absurd (true≢false (sym (back_less (name_cmp a b) (name_cmp b a) e (total.antisymm b a)) ∙ k))

pub same_name : (a b : List ℕ) → comes_before a b ≡ false → comes_before b a ≡ false → a ≡ b
unfolding comes_before
same_name a b h k = by_order a b (name_cmp a b) refl h k

-- ---- prints

print_order : (p q : ℕ) (o : Ordering) → is_lt (ordering_then (nat_cmp p q) o) ≡ false → q ≤ p
print_order p q o h = grind (arith, nat_tests)

-- The prints do not fall.
pub prints_follow : (a b : List ℕ) → comes_before b a ≡ false → print_of a ≤ print_of b
unfolding comes_before
prints_follow a b h = print_order (print_of b) (print_of a) (slice_cmp nat_cmp b a) h

print_same : (p q : ℕ) (o : Ordering) → p ≡ q → is_lt (ordering_then (nat_cmp p q) o) ≡ is_lt o
print_same p q o h = grind (arith, nat_tests)

pub by_bytes : (a b : List ℕ) → print_of a ≡ print_of b → comes_before a b ≡ is_lt (slice_cmp nat_cmp a b)
unfolding comes_before
by_bytes a b h = print_same (print_of a) (print_of b) (slice_cmp nat_cmp a b) h

print_other : (p q : ℕ) (o : Ordering) → nat_eq p q ≡ false → is_lt (ordering_then (nat_cmp p q) o) ≡ nat_lt p q
print_other p q o h = grind (arith, nat_tests)

pub by_prints : (a b : List ℕ) → nat_eq (print_of a) (print_of b) ≡ false → comes_before a b ≡ nat_lt (print_of a) (print_of b)
unfolding comes_before
by_prints a b h = print_other (print_of a) (print_of b) (slice_cmp nat_cmp a b) h
