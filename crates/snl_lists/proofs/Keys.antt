-- Keys that differ from one another.
use Rattle.std.proofs.Common.{◌≡◌, ℕ, zero, suc, List, [], ◌∷◌, ◌++◌, length, take, drop, sym, ap, ◌∙◌, arith, Contains}
use Rattle.std.proofs.Math.Seq.{take-append_seam, drop-append_seam}
use Rattle.snl_lists.specs.Keyed.{Differs, IsDistinct}

-- Each of the keys differs from each of the others.
abbrev pub Outside : List ℕ → List ℕ → Type 0
Outside others [] = Unit {0}
Outside others (k ∷ ks) = Differs k others × Outside others ks

pub take_front : {X : Type 0} (front back : List X) (n : ℕ) → n ≡ length front → take n (front ++ back) ≡ front
take_front front back n e = ap (λ k. take k (front ++ back)) e ∙ take-append_seam front back

pub drop_front : {X : Type 0} (front back : List X) (n : ℕ) → n ≡ length front → drop n (front ++ back) ≡ back
drop_front front back n e = ap (λ k. drop k (front ++ back)) e ∙ drop-append_seam front back

pub differs_left : (k : ℕ) (xs ys : List ℕ) → Differs k (xs ++ ys) → Differs k xs
differs_left k [] ys h = tt
differs_left k (x ∷ xs) ys h = (h.0, differs_left k xs ys h.1)

pub differs_right : (k : ℕ) (xs ys : List ℕ) → Differs k (xs ++ ys) → Differs k ys
differs_right k [] ys h = h
differs_right k (x ∷ xs) ys h = differs_right k xs ys h.1

pub differs_both : (k : ℕ) (xs ys : List ℕ) → Differs k xs → Differs k ys → Differs k (xs ++ ys)
differs_both k [] ys h i = i
differs_both k (x ∷ xs) ys h i = (h.0, differs_both k xs ys h.1 i)

pub outside_left : (others xs ys : List ℕ) → Outside others (xs ++ ys) → Outside others xs
outside_left others [] ys h = tt
outside_left others (x ∷ xs) ys h = (h.0, outside_left others xs ys h.1)

pub outside_right : (others xs ys : List ℕ) → Outside others (xs ++ ys) → Outside others ys
outside_right others [] ys h = h
outside_right others (x ∷ xs) ys h = outside_right others xs ys h.1

pub outside_both : (others xs ys : List ℕ) → Outside others xs → Outside others ys → Outside others (xs ++ ys)
outside_both others [] ys h i = i
outside_both others (x ∷ xs) ys h i = (h.0, outside_both others xs ys h.1 i)

pub outside_first : (one two xs : List ℕ) → Outside (one ++ two) xs → Outside one xs
outside_first one two [] h = tt
outside_first one two (x ∷ xs) h = (differs_left x one two h.0, outside_first one two xs h.1)

pub outside_second : (one two xs : List ℕ) → Outside (one ++ two) xs → Outside two xs
outside_second one two [] h = tt
outside_second one two (x ∷ xs) h = (differs_right x one two h.0, outside_second one two xs h.1)

pub outside_joined : (one two xs : List ℕ) → Outside one xs → Outside two xs → Outside (one ++ two) xs
outside_joined one two [] h i = tt
outside_joined one two (x ∷ xs) h i = (differs_both x one two h.0 i.0, outside_joined one two xs h.1 i.1)

outside_none : (xs : List ℕ) → Outside [] xs
outside_none [] = tt
outside_none (x ∷ xs) = (tt, outside_none xs)

-- one key more among the others
outside_more : (k : ℕ) (others xs : List ℕ) → Differs k xs → Outside others xs → Outside (k ∷ others) xs
outside_more k others [] d h = tt
outside_more k others (x ∷ xs) d h = (((λ e. d.0 (sym e)), h.0), outside_more k others xs d.1 h.1)

pub outside_sym : (others xs : List ℕ) → Outside others xs → Outside xs others
outside_sym others [] h = outside_none others
outside_sym others (x ∷ xs) h = outside_more x xs others h.0 (outside_sym others xs h.1)

pub distinct_left : (xs ys : List ℕ) → IsDistinct (xs ++ ys) → IsDistinct xs
distinct_left [] ys h = tt
distinct_left (x ∷ xs) ys h = (differs_left x xs ys h.0, distinct_left xs ys h.1)

pub distinct_right : (xs ys : List ℕ) → IsDistinct (xs ++ ys) → IsDistinct ys
distinct_right [] ys h = h
distinct_right (x ∷ xs) ys h = distinct_right xs ys h.1

pub distinct_apart : (xs ys : List ℕ) → IsDistinct (xs ++ ys) → Outside ys xs
distinct_apart [] ys h = tt
distinct_apart (x ∷ xs) ys h = (differs_right x xs ys h.0, distinct_apart xs ys h.1)

pub distinct_both : (xs ys : List ℕ) → IsDistinct xs → IsDistinct ys → Outside ys xs → IsDistinct (xs ++ ys)
distinct_both [] ys h i o = i
distinct_both (x ∷ xs) ys h i o = (differs_both x xs ys h.0 o.0, distinct_both xs ys h.1 i o.1)

pub not_among : (k : ℕ) (ks : List ℕ) → Differs k ks → Contains ks k → ⊥
not_among k [] d c = absurd (omega (arith, c.1))
not_among k (j ∷ js) d (zero, inside, is) = d.0 is
not_among k (j ∷ js) d (suc n, inside, is) = not_among k js d.1 (n, omega arith, is)

-- The key after the last.
pub distinct_more : (ks : List ℕ) (k : ℕ) → IsDistinct ks → Differs k ks → IsDistinct (ks ++ k ∷ [])
distinct_more ks k h d = distinct_both ks (k ∷ []) h (tt, tt) (outside_more k [] ks d (outside_none ks))

-- The parts of an order whose middle goes, and whose end goes in its place.
pub record Parts (a r b f : List ℕ) : Type 0 where
  pub turned : IsDistinct (a ++ (f ++ b))
  pub front : Outside r a
  pub after : Outside r b
  pub made : Outside r f

pub parts : (a r b f : List ℕ) → IsDistinct (a ++ (r ++ (b ++ f))) → Parts a r b f
parts a r b f h =
    let rest = distinct_right a (r ++ (b ++ f)) h in
    let a_out = distinct_apart a (r ++ (b ++ f)) h in
    let tail = distinct_right r (b ++ f) rest in
    let r_out = outside_sym (b ++ f) r (distinct_apart r (b ++ f) rest) in
    let a_tail = outside_second r (b ++ f) a a_out in
    let swapped = distinct_both f b (distinct_right b f tail) (distinct_left b f tail) (outside_sym f b (distinct_apart b f tail)) in
    record {
      turned = distinct_both a (f ++ b) (distinct_left a (r ++ (b ++ f)) h) swapped (outside_joined f b a (outside_second b f a a_tail) (outside_first b f a a_tail));
      front = outside_first r (b ++ f) a a_out;
      after = outside_left r b f r_out;
      made = outside_right r b f r_out;
    }
