-- Where an item ends that begins with `program`.
use Rattle.std.proofs.Common.{◌≡◌, ℕ, zero, suc, ◌+◌, ◌<◌, ◌≤◌, Bool, true, false, not, cond, ◌&&◌, List, [], ◌∷◌, ◌++◌, length, take, Option, Some, None, refl, ap, ◌∙◌, arith, subst, inl, inr}
use Rattle.std.proofs.Math.Bool.{and-true}
use Rattle.std.proofs.lemmas.Bool.{cases_lt}
use Rattle.std.specs.List.{slice_get}
use Rattle.snl_grammar.specs.declared.marks.Mark.{Mark}
use Rattle.snl_grammar.specs.declared.marks.Mark.TheVariants as mark
use Rattle.snl_grammar.specs.Items.{begins_texts, ends_after, ends_before, is_close_paren, is_empty, is_name, is_open_paren, is_text, item, some_is}
use Rattle.snl_grammar.specs.ItemLaws.{item_is, least_here, least_next}

-- the token there is there
pub some_within : (p : Mark → Bool) (u : List Mark) (n : ℕ) → some_is p (slice_get u n) ≡ true → n < length u
some_within p [] n h = cc
some_within p (x ∷ k) zero h = omega arith
some_within p (x ∷ k) (suc n) h = let rest = some_within p k n h in omega (arith, rest)

-- the first n tokens are texts
abbrev AllText : List Mark → ℕ → Type 0
AllText k n = (j : ℕ) → j < n → some_is is_text (slice_get k j) ≡ true

later : (x : Mark) (k : List Mark) (n : ℕ) → AllText (x ∷ k) (suc n) → AllText k n
later x k n all = λ j under. all (suc j) (omega arith)

-- texts in front change nothing
texts_front : (k : List Mark) (n : ℕ) → AllText k n → (x : Mark) → begins_texts (take n k ++ x ∷ []) ≡ begins_texts (x ∷ [])
texts_front k zero all x = refl
texts_front [] (suc n) all x = let none : some_is is_text (slice_get [] 0) ≡ true = all 0 (omega arith) in cc
texts_front (y ∷ k) (suc n) all x =
    let text : is_text y ≡ true = all 0 (omega arith) in
    ap (λ (b : Bool). cond b (begins_texts (take n k ++ x ∷ [])) (is_close_paren y && is_empty (take n k ++ x ∷ []))) text
    ∙ texts_front k n (later y k n all) x

-- nothing is after the closing parenthesis
texts_closed : (k : List Mark) (n : ℕ) → AllText k n → some_is is_text (slice_get k n) ≡ false → some_is is_close_paren (slice_get k n) ≡ true
    → (x : Mark) → begins_texts (take (suc n) k ++ x ∷ []) ≡ false
texts_closed [] n all stop close x = cc
texts_closed (y ∷ k) zero all stop close x =
    ap (λ (b : Bool). cond b (begins_texts (x ∷ [])) (is_close_paren y && false)) stop ∙ ap (λ (b : Bool). b && false) close
texts_closed (y ∷ k) (suc n) all stop close x =
    let text : is_text y ≡ true = all 0 (omega arith) in
    ap (λ (b : Bool). cond b (begins_texts (take (suc n) k ++ x ∷ [])) (is_close_paren y && is_empty (take (suc n) k ++ x ∷ []))) text
    ∙ texts_closed k n (later y k n all) stop close x

-- `program NAME ( TEXT` is in front of k
pub record IsHeader (a : Mark) (b : Mark) (t : Mark) : Type 0 where
  pub name : is_name a ≡ true
  pub paren : is_open_paren b ≡ true
  pub text : is_text t ≡ true

header_told : (a b t : Mark) → IsHeader a b t → (e : Bool) → not (is_name a && (is_open_paren b && (is_text t && e))) ≡ not e
header_told a b t is e =
    ap (λ (x : Bool). not (x && (is_open_paren b && (is_text t && e)))) is.name
    ∙ ap (λ (x : Bool). not (x && (is_text t && e))) is.paren
    ∙ ap (λ (x : Bool). not (x && e)) is.text

-- among the texts no item ends
among : (a b t : Mark) (k : List Mark) (n : ℕ) → IsHeader a b t → AllText k n → (o : Option Mark) → slice_get k n ≡ o → some_is is_text o ≡ true
    → ends_before (mark.Program ∷ a ∷ b ∷ t ∷ take n k) o ≡ false
among a b t k n is all None here text = cc
among a b t k n is all (Some x) here text =
    header_told a b t is (begins_texts (take n k ++ x ∷ []))
    ∙ ap not (texts_front k n all x)
    ∙ ap (λ (e : Bool). not (cond e true (is_close_paren x && true))) text

-- after the texts it ends, but before a closing parenthesis
after : (a b t : Mark) (k : List Mark) (n : ℕ) → IsHeader a b t → AllText k n → (o : Option Mark) → some_is is_text o ≡ false
    → ends_before (mark.Program ∷ a ∷ b ∷ t ∷ take n k) o ≡ not (some_is is_close_paren o)
after a b t k n is all None stop = refl
after a b t k n is all (Some x) stop =
    header_told a b t is (begins_texts (take n k ++ x ∷ []))
    ∙ ap not (texts_front k n all x)
    ∙ ap (λ (e : Bool). not (cond e true (is_close_paren x && true))) stop
    ∙ ap not (and-true (is_close_paren x))

-- after the closing parenthesis it ends
closed : (a b t : Mark) (k : List Mark) (n : ℕ) → IsHeader a b t → AllText k n → some_is is_text (slice_get k n) ≡ false
    → some_is is_close_paren (slice_get k n) ≡ true → (o : Option Mark) → ends_before (mark.Program ∷ a ∷ b ∷ t ∷ take (suc n) k) o ≡ true
closed a b t k n is all stop close None = refl
closed a b t k n is all stop close (Some x) =
    header_told a b t is (begins_texts (take (suc n) k ++ x ∷ [])) ∙ ap not (texts_closed k n all stop close x)

-- nothing ends before the texts do
unended : (a b t : Mark) (k : List Mark) (n : ℕ) → IsHeader a b t → AllText k n
    → (m : ℕ) → 1 ≤ m → m < suc (suc (suc (suc n))) → ends_after (mark.Program ∷ a ∷ b ∷ t ∷ k) m ≡ false
unended a b t k n is all zero low high = absurd (omega arith)
unended a b t k n is all (suc zero) low high = ap (λ (x : Bool). not (x && true)) is.name
unended a b t k n is all (suc (suc zero)) low high =
    ap (λ (x : Bool). not (x && (is_open_paren b && true))) is.name ∙ ap (λ (x : Bool). not (x && true)) is.paren
unended a b t k n is all (suc (suc (suc zero))) low high = header_told a b t is true
unended a b t k n is all (suc (suc (suc (suc j)))) low high =
    let inside : j < n = omega arith in
    among a b t k j is (λ i under. all i (omega arith)) (slice_get k j) refl (all j inside)

header_open : (a b t : Mark) (k : List Mark) (n : ℕ) → IsHeader a b t → AllText k n → n ≤ length k → some_is is_text (slice_get k n) ≡ false
    → some_is is_close_paren (slice_get k n) ≡ false → item (mark.Program ∷ a ∷ b ∷ t ∷ k) ≡ suc (suc (suc (suc n)))
header_open a b t k n is all within stop free =
    item_is (mark.Program ∷ a ∷ b ∷ t ∷ k) (suc (suc (suc (suc n)))) (omega arith) (record {
      above = omega arith;
      passes = after a b t k n is all (slice_get k n) stop ∙ ap not free;
      none = unended a b t k n is all;
    })

header_closed : (a b t : Mark) (k : List Mark) (n : ℕ) → IsHeader a b t → AllText k n → some_is is_text (slice_get k n) ≡ false
    → some_is is_close_paren (slice_get k n) ≡ true → item (mark.Program ∷ a ∷ b ∷ t ∷ k) ≡ suc (suc (suc (suc (suc n))))
header_closed a b t k n is all stop close =
    let within = some_within is_close_paren k n close in
    item_is (mark.Program ∷ a ∷ b ∷ t ∷ k) (suc (suc (suc (suc (suc n))))) (omega (arith, within)) (record {
      above = omega arith;
      passes = closed a b t k n is all stop close (slice_get k (suc n));
      none = λ m low high.
          elim (cases_lt m (suc (suc (suc (suc n))))) [
            | inl less ↦ unended a b t k n is all m low less
            | inr more ↦
                let same : suc (suc (suc (suc n))) ≡ m = omega arith in
                subst (λ (i : ℕ). ends_after (mark.Program ∷ a ∷ b ∷ t ∷ k) i ≡ false) same (after a b t k n is all (slice_get k n) stop ∙ ap not close)
          ];
    })

-- The rest as the code reads it: how far `program NAME ( TEXT ..` goes is told by what is at each
-- place.
pub record Begins (u : List Mark) : Type 0 where
  pub program : slice_get u 0 ≡ Some mark.Program
  pub name : some_is is_name (slice_get u 1) ≡ true
  pub paren : some_is is_open_paren (slice_get u 2) ≡ true
  pub text : some_is is_text (slice_get u 3) ≡ true

pub header_end : (u : List Mark) (n : ℕ) → Begins u → 4 ≤ n → n ≤ length u → ((k : ℕ) → 4 ≤ k → k < n → some_is is_text (slice_get u k) ≡ true)
    → some_is is_text (slice_get u n) ≡ false → some_is is_close_paren (slice_get u n) ≡ false → item u ≡ n
header_end [] n is low within all stop free = cc (is.program)
header_end (p ∷ []) n is low within all stop free = cc (is.name)
header_end (p ∷ a ∷ []) n is low within all stop free = cc (is.paren)
header_end (p ∷ a ∷ b ∷ []) n is low within all stop free = cc (is.text)
header_end (p ∷ a ∷ b ∷ t ∷ k) zero is low within all stop free = absurd (omega arith)
header_end (p ∷ a ∷ b ∷ t ∷ k) (suc zero) is low within all stop free = absurd (omega arith)
header_end (p ∷ a ∷ b ∷ t ∷ k) (suc (suc zero)) is low within all stop free = absurd (omega arith)
header_end (p ∷ a ∷ b ∷ t ∷ k) (suc (suc (suc zero))) is low within all stop free = absurd (omega arith)
header_end (p ∷ a ∷ b ∷ t ∷ k) (suc (suc (suc (suc n)))) is low within all stop free =
    let same : p ≡ mark.Program = cc (is.program) in
    ap (λ (x : Mark). item (x ∷ a ∷ b ∷ t ∷ k)) same
    ∙ header_open a b t k n (record { name = is.name; paren = is.paren; text = is.text }) (λ j under. all (suc (suc (suc (suc j)))) (omega arith) (omega arith)) (omega arith) stop free

pub header_shut : (u : List Mark) (n : ℕ) → Begins u → 4 ≤ n → ((k : ℕ) → 4 ≤ k → k < n → some_is is_text (slice_get u k) ≡ true)
    → some_is is_text (slice_get u n) ≡ false → some_is is_close_paren (slice_get u n) ≡ true → item u ≡ n + 1
header_shut [] n is low all stop close = cc (is.program)
header_shut (p ∷ []) n is low all stop close = cc (is.name)
header_shut (p ∷ a ∷ []) n is low all stop close = cc (is.paren)
header_shut (p ∷ a ∷ b ∷ []) n is low all stop close = cc (is.text)
header_shut (p ∷ a ∷ b ∷ t ∷ k) zero is low all stop close = absurd (omega arith)
header_shut (p ∷ a ∷ b ∷ t ∷ k) (suc zero) is low all stop close = absurd (omega arith)
header_shut (p ∷ a ∷ b ∷ t ∷ k) (suc (suc zero)) is low all stop close = absurd (omega arith)
header_shut (p ∷ a ∷ b ∷ t ∷ k) (suc (suc (suc zero))) is low all stop close = absurd (omega arith)
header_shut (p ∷ a ∷ b ∷ t ∷ k) (suc (suc (suc (suc n)))) is low all stop close =
    let same : p ≡ mark.Program = cc (is.program) in
    let one : suc (suc (suc (suc (suc n)))) ≡ suc (suc (suc (suc n))) + 1 = omega arith in
    ap (λ (x : Mark). item (x ∷ a ∷ b ∷ t ∷ k)) same
    ∙ header_closed a b t k n (record { name = is.name; paren = is.paren; text = is.text }) (λ j under. all (suc (suc (suc (suc j)))) (omega arith) (omega arith)) stop close
    ∙ one

-- where the front of a header breaks off
two_ends : (a : Mark) (k : List Mark) → is_name a ≡ true → some_is is_open_paren (slice_get k 0) ≡ false → ends_after (mark.Program ∷ a ∷ k) 2 ≡ true
two_ends a [] name free = refl
two_ends a (b ∷ k) name free =
    ap (λ (e : Bool). not (e && (is_open_paren b && true))) name ∙ ap (λ (e : Bool). not (e && true)) free

three_ends : (a b : Mark) (k : List Mark) → is_name a ≡ true → is_open_paren b ≡ true → some_is is_text (slice_get k 0) ≡ false
    → ends_after (mark.Program ∷ a ∷ b ∷ k) 3 ≡ true
three_ends a b [] name paren text = refl
three_ends a b (t ∷ k) name paren text =
    ap (λ (e : Bool). not (e && (is_open_paren b && (is_text t && true)))) name
    ∙ ap (λ (e : Bool). not (e && (is_text t && true))) paren
    ∙ ap (λ (e : Bool). not (e && true)) text

pub header_two : (u : List Mark) → slice_get u 0 ≡ Some mark.Program → some_is is_name (slice_get u 1) ≡ true → some_is is_open_paren (slice_get u 2) ≡ false → item u ≡ 2
header_two [] f name free = cc
header_two (p ∷ []) f name free = cc
header_two (p ∷ a ∷ k) f name free =
    let same : p ≡ mark.Program = cc in
    let q : ℕ → Bool = ends_after (mark.Program ∷ a ∷ k) in
    ap (λ (x : Mark). item (x ∷ a ∷ k)) same
    ∙ least_next q 1 (length (a ∷ k)) (ap (λ (b : Bool). not (b && true)) name)
    ∙ least_here q 2 (length k) (two_ends a k name free)

pub header_three : (u : List Mark) → slice_get u 0 ≡ Some mark.Program → some_is is_name (slice_get u 1) ≡ true → some_is is_open_paren (slice_get u 2) ≡ true
    → some_is is_text (slice_get u 3) ≡ false → item u ≡ 3
header_three [] f name paren text = cc
header_three (p ∷ []) f name paren text = cc
header_three (p ∷ a ∷ []) f name paren text = cc
header_three (p ∷ a ∷ b ∷ k) f name paren text =
    let same : p ≡ mark.Program = cc in
    let q : ℕ → Bool = ends_after (mark.Program ∷ a ∷ b ∷ k) in
    ap (λ (x : Mark). item (x ∷ a ∷ b ∷ k)) same
    ∙ least_next q 1 (length (a ∷ b ∷ k)) (ap (λ (e : Bool). not (e && true)) name)
    ∙ least_next q 2 (length (b ∷ k)) (ap (λ (e : Bool). not (e && (is_open_paren b && true))) name ∙ ap (λ (e : Bool). not (e && true)) paren)
    ∙ least_here q 3 (length k) (three_ends a b k name paren text)
