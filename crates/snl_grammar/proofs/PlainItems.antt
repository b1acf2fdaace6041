-- Where an item ends that begins with no token of its own kind, as its marks are read one by one.
use Rattle.std.proofs.Common.{◌≡◌, ℕ, zero, suc, ◌+◌, ◌-◌, ◌<◌, ◌≤◌, ◌==◌, Bool, true, false, cond, ◌&&◌, ◌||◌, List, [], ◌∷◌, length, take, get_or, Option, Some, None, refl, ap, ◌∙◌, sym, arith, subst, inl, inr}
use Rattle.std.specs.List.{count_by, slice_get}
use Rattle.std.proofs.lemmas.Bool.{cases_lt, eqb-false, or_parts}
use Rattle.std.proofs.lemmas.Bool.Decides.{nat_tests}
use Rattle.std.proofs.lemmas.List.{length-take-le, take-take}
use Rattle.std.proofs.lemmas.List.Sums.{count_by_more_no, count_by_more_yes}
use Rattle.std.proofs.lemmas.Option.{get_or_from_slice_get, slice_get-get_or, slice_get_past, slice_get_within}
use Rattle.snl_grammar.specs.declared.marks.Mark.{Mark}
use Rattle.snl_grammar.specs.declared.marks.Mark.TheVariants as mark
use Rattle.snl_grammar.specs.Items.{balance_after, ends_after, ends_before, ends_by, greatest_below, has_body, is_after, is_body, is_close, is_close_paren, is_open, is_plain, item, last_of, level, opened_by_paren, plain_ends, plain_ends_at, raises, some_is}
use Rattle.snl_grammar.specs.ItemLaws.{get_taken, item_is}

-- what a mark isn't
open_not_close : (x : Mark) → is_open x ≡ true → is_close x ≡ false
open_not_close x h = grind arith

plain_not_close : (x : Mark) → is_plain x ≡ true → is_close x ≡ false
plain_not_close x h = grind arith

ends_by_plain : (f : Mark) (k : List Mark) (x : Mark) → is_plain f ≡ true → ends_by f k x ≡ plain_ends (level (f ∷ k)) (last_of f k) (has_body f k) x
ends_by_plain mark.OpenBrace k x h = refl
ends_by_plain mark.CloseBrace k x h = cc
ends_by_plain mark.Program k x h = cc
ends_by_plain mark.Ss k x h = cc
ends_by_plain mark.Body k x h = refl
ends_by_plain mark.Name k x h = refl
ends_by_plain mark.Text k x h = refl
ends_by_plain mark.CCode k x h = cc
ends_by_plain mark.OpenParen k x h = refl
ends_by_plain mark.CloseParen k x h = refl
ends_by_plain mark.Semicolon k x h = cc
ends_by_plain mark.Other k x h = refl

ends_plain : (f : Mark) (k : List Mark) (o : Option Mark) → is_plain f ≡ true → ends_before (f ∷ k) o ≡ plain_ends_at (level (f ∷ k)) (last_of f k) (has_body f k) o
ends_plain f k None h = refl
ends_plain f k (Some x) h = ends_by_plain f k x h

-- The balance
count_more_by : (p : Mark → Bool) (u : List Mark) (n : ℕ) (x : Mark) → slice_get u n ≡ Some x → (b : Bool) → p x ≡ b
    → count_by p (take (n + 1) u) ≡ count_by p (take n u) + cond b 1 0
count_more_by p u n x here true on =
    count_by_more_yes p u n x (slice_get_within u n x here) (ap p (get_or_from_slice_get u n x x here) ∙ on)
count_more_by p u n x here false off =
    let more = count_by_more_no p u n x (slice_get_within u n x here) (ap p (get_or_from_slice_get u n x x here) ∙ off) in omega (arith, more)

count_more : (p : Mark → Bool) (u : List Mark) (n : ℕ) (x : Mark) → slice_get u n ≡ Some x → count_by p (take (n + 1) u) ≡ count_by p (take n u) + cond (p x) 1 0
count_more p u n x here = count_more_by p u n x here (p x) refl

counted_by : (a b : Bool) (balance opened closed : ℕ) → (a ≡ true → b ≡ false) → (b ≡ true → 0 < balance) → balance + closed ≡ opened
    → cond a (balance + 1) (cond b (balance - 1) balance) + (closed + cond b 1 0) ≡ opened + cond a 1 0
counted_by true true balance opened closed only room so = let never : true ≡ false = only refl in cc
counted_by true false balance opened closed only room so = omega (arith, so)
counted_by false true balance opened closed only room so = let some : 0 < balance = room refl in omega (arith, so)
counted_by false false balance opened closed only room so = omega (arith, so)

pub counted_more : (u : List Mark) (n : ℕ) (x : Mark) (balance : ℕ) → slice_get u n ≡ Some x → (is_close x ≡ true → 0 < balance)
    → balance + count_by is_close (take n u) ≡ count_by is_open (take n u)
    → balance_after balance x + count_by is_close (take (n + 1) u) ≡ count_by is_open (take (n + 1) u)
counted_more u n x balance here room so =
    ap (λ (c : ℕ). balance_after balance x + c) (count_more is_close u n x here)
    ∙ counted_by (is_open x) (is_close x) balance (count_by is_open (take n u)) (count_by is_close (take n u)) (open_not_close x) room so
    ∙ sym (count_more is_open u n x here)

level_by : (balance opened closed : ℕ) → balance + closed ≡ opened → (opened == closed) ≡ (balance == 0)
level_by balance opened closed so = grind (arith, nat_tests)

level_told : (k : List Mark) (balance : ℕ) → balance + count_by is_close k ≡ count_by is_open k → level k ≡ (balance == 0)
level_told k balance so = level_by balance (count_by is_open k) (count_by is_close k) so

-- The brace that raised the balance
apply_cond : (f : ℕ → Bool) (b : Bool) (m n : ℕ) → cond b (f m) (f n) ≡ f (cond b m n)
apply_cond f true m n = refl
apply_cond f false m n = refl

pub paren_more : (u : List Mark) (n balance : ℕ) (before : Bool) → balance + count_by is_close (take n u) ≡ count_by is_open (take n u)
    → before ≡ is_after is_close_paren u (greatest_below (raises u) n)
    → cond (balance == 0 && some_is is_open (slice_get u n)) (is_after is_close_paren u n) before
    ≡ is_after is_close_paren u (greatest_below (raises u) (suc n))
paren_more u n balance before so told =
    let raised : raises u n ≡ (balance == 0 && some_is is_open (slice_get u n)) =
    ap (λ (b : Bool). b && some_is is_open (slice_get u n)) (level_told (take n u) balance so) in
    ap (λ (b : Bool). cond b (is_after is_close_paren u n) before) (sym raised)
    ∙ ap (λ (b : Bool). cond (raises u n) (is_after is_close_paren u n) b) told
    ∙ apply_cond (is_after is_close_paren u) (raises u n) n (greatest_below (raises u) n)

greatest_same : (p q : ℕ → Bool) (n : ℕ) → ((m : ℕ) → m < n → p m ≡ q m) → greatest_below p n ≡ greatest_below q n
greatest_same p q zero same = refl
greatest_same p q (suc n) same =
    ap (λ (b : Bool). cond b n (greatest_below p n)) (same n (omega arith))
    ∙ ap (λ (m : ℕ). cond (q n) n m) (greatest_same p q n (λ m under. same m (omega arith)))

greatest_within : (p : ℕ → Bool) (n : ℕ) → greatest_below p n ≤ n
greatest_within p zero = omega arith
greatest_within p (suc n) =
    let rest = greatest_within p n in
    elim (p n) as (λ b. cond b n (greatest_below p n) ≤ suc n) [ true ↦ omega arith | false ↦ omega (arith, rest) ]

raises_taken : (u : List Mark) (n m : ℕ) → m < n → raises (take n u) m ≡ raises u m
raises_taken u n m under =
    ap (λ (k : List Mark). level k && some_is is_open (slice_get (take n u) m)) (take-take m n u (omega arith))
    ∙ ap (λ (o : Option Mark). level (take m u) && some_is is_open o) (get_taken u m n under)

after_taken : (u : List Mark) (n m : ℕ) → m ≤ n → is_after is_close_paren (take n u) m ≡ is_after is_close_paren u m
after_taken u n zero under = refl
after_taken u n (suc m) under = ap (some_is is_close_paren) (get_taken u m n (omega arith))

opened_taken : (u : List Mark) (n : ℕ) → n ≤ length u → opened_by_paren (take n u) ≡ is_after is_close_paren u (greatest_below (raises u) n)
opened_taken u n within =
    ap (λ (m : ℕ). is_after is_close_paren (take n u) (greatest_below (raises (take n u)) m)) (length-take-le n u within)
    ∙ ap (is_after is_close_paren (take n u)) (greatest_same (raises (take n u)) (raises u) n (raises_taken u n))
    ∙ after_taken u n (greatest_below (raises u) n) (greatest_within (raises u) n)

-- The last mark
last_taken : (f : Mark) (k : List Mark) (n : ℕ) (x : Mark) → slice_get (f ∷ k) n ≡ Some x → last_of f (take n k) ≡ x
last_taken f k zero x here = cc
last_taken f [] (suc n) x here = cc
last_taken f (y ∷ k) (suc n) x here = last_taken y k n x here

-- Whether it ends after one more mark
pub turn : (u : List Mark) (n : ℕ) (x : Mark) (balance : ℕ) (paren : Bool) → some_is is_plain (slice_get u 0) ≡ true → slice_get u n ≡ Some x
    → balance + count_by is_close (take (suc n) u) ≡ count_by is_open (take (suc n) u)
    → paren ≡ is_after is_close_paren u (greatest_below (raises u) (suc n))
    → ends_after u (suc n) ≡ plain_ends_at (balance == 0) x (some_is is_body (slice_get u 0) || paren) (slice_get u (suc n))
turn [] n x balance paren plain here so told = cc
turn (f ∷ k) n x balance paren plain here so told =
    let within = slice_get_within (f ∷ k) n x here in
    let o : Option Mark = slice_get k n in
    ends_plain f (take n k) o plain
    ∙ ap (λ (b : Bool). plain_ends_at b (last_of f (take n k)) (has_body f (take n k)) o) (level_told (f ∷ take n k) balance so)
    ∙ ap (λ (m : Mark). plain_ends_at (balance == 0) m (has_body f (take n k)) o) (last_taken f k n x here)
    ∙ ap (λ (b : Bool). plain_ends_at (balance == 0) x (is_body f || b) o) (opened_taken (f ∷ k) (suc n) (omega (arith, within)) ∙ sym told)

-- Where a `}` comes next, some brace is open.
room_by : (is_level closes : Bool) → is_level && closes ≡ false → closes ≡ true → is_level ≡ false
room_by true b h closed = cc
room_by false b h closed = refl

pub room : (u : List Mark) (n : ℕ) (x : Mark) (balance : ℕ) → some_is is_plain (slice_get u 0) ≡ true → slice_get u n ≡ Some x
    → balance + count_by is_close (take n u) ≡ count_by is_open (take n u) → ((m : ℕ) → 1 ≤ m → m ≤ n → ends_after u m ≡ false)
    → is_close x ≡ true → 0 < balance
room [] n x balance plain here so unended close = cc
room (f ∷ k) zero x balance plain here so unended close =
    let same : f ≡ x = cc in
    let off : is_close f ≡ false = plain_not_close f plain in
    let on : is_close f ≡ true = ap is_close same ∙ close in
    cc
room (f ∷ k) (suc n) x balance plain here so unended close =
    let on : ends_before (f ∷ take n k) (slice_get k n) ≡ false = unended (suc n) (omega arith) (omega arith) in
    let at : ends_before (f ∷ take n k) (Some x) ≡ false = ap (ends_before (f ∷ take n k)) (sym here) ∙ on in
    let told = sym (ends_plain f (take n k) (Some x) plain) ∙ at in
    let parts = or_parts _ (level (f ∷ take n k) && is_close x) told in
    let off : level (f ∷ take n k) ≡ false = room_by (level (f ∷ take n k)) (is_close x) parts.1 close in
    let none : balance ≡ 0 → ⊥ = eqb-false balance 0 (sym (level_told (f ∷ take n k) balance so) ∙ off) in
    omega arith

-- What is known where n marks are read, and no item ended after any of them.
pub record IsRead (u : List Mark) (n : ℕ) (balance : ℕ) (paren : Bool) : Type 0 where
  pub inside : n < length u
  pub small : balance ≤ n
  pub counted : balance + count_by is_close (take n u) ≡ count_by is_open (take n u)
  pub told : paren ≡ is_after is_close_paren u (greatest_below (raises u) n)
  pub unended : (m : ℕ) → 1 ≤ m → m ≤ n → ends_after u m ≡ false

pub none_read : (u : List Mark) → 0 < length u → IsRead u 0 0 false
none_read u some = record {
  inside = some;
  small = omega arith;
  counted = refl;
  told = refl;
  unended = λ m low high. absurd (omega arith);
}

-- The mark at n is read; `ended` says whether the item ends after it.
pub record IsTurn (u : List Mark) (n : ℕ) (balance : ℕ) (paren : Bool) (balance_next : ℕ) (paren_next : Bool) (ended : Bool) : Type 0 where
  pub plain : some_is is_plain (slice_get u 0) ≡ true
  pub read : IsRead u n balance paren
  pub balanced : balance_next ≡ balance_after balance (get_or u n mark.Program)
  pub opened : paren_next ≡ cond (balance == 0 && some_is is_open (slice_get u n)) (is_after is_close_paren u n) paren
  pub tested : ended ≡ plain_ends_at (balance_next == 0) (get_or u n mark.Program) (is_body (get_or u 0 mark.Program) || paren_next) (slice_get u (n + 1))

pub turn_of : {u : List Mark} {n balance : ℕ} {paren : Bool} {balance_next : ℕ} {paren_next ended : Bool} (body has : Bool) (o : Option Mark)
    → some_is is_plain (slice_get u 0) ≡ true → IsRead u n balance paren → balance_next ≡ balance_after balance (get_or u n mark.Program)
    → paren_next ≡ cond (balance == 0 && some_is is_open (slice_get u n)) (is_after is_close_paren u n) paren
    → body ≡ is_body (get_or u 0 mark.Program) → has ≡ (body || paren_next) → o ≡ slice_get u (n + 1)
    → ended ≡ plain_ends_at (balance_next == 0) (get_or u n mark.Program) has o
    → IsTurn u n balance paren balance_next paren_next ended
turn_of {u} {n} {balance} {paren} {balance_next} {paren_next} body has o plain read balanced opened first either ahead tested =
    let x : Mark = get_or u n mark.Program in
    record {
      plain = plain;
      read = read;
      balanced = balanced;
      opened = opened;
      tested = tested
          ∙ ap (λ (b : Bool). plain_ends_at (balance_next == 0) x b o) (either ∙ ap (λ (b : Bool). b || paren_next) first)
          ∙ ap (plain_ends_at (balance_next == 0) x (is_body (get_or u 0 mark.Program) || paren_next)) ahead;
    }

mark_there : (u : List Mark) (n : ℕ) → n < length u → slice_get u n ≡ Some (get_or u n mark.Program)
mark_there u n within = slice_get-get_or u n mark.Program within

pub room_there : (u : List Mark) (n balance : ℕ) (paren : Bool) → some_is is_plain (slice_get u 0) ≡ true → IsRead u n balance paren
    → is_close (get_or u n mark.Program) ≡ true → 0 < balance
room_there u n balance paren plain read close =
    room u n (get_or u n mark.Program) balance plain (mark_there u n read.inside) read.counted read.unended close

counted_there : {u : List Mark} {n balance : ℕ} {paren : Bool} {balance_next : ℕ} {paren_next ended : Bool} → IsTurn u n balance paren balance_next paren_next ended
    → balance_next + count_by is_close (take (n + 1) u) ≡ count_by is_open (take (n + 1) u)
counted_there {u} {n} {balance} {paren} {balance_next} t =
    ap (λ (b : ℕ). b + count_by is_close (take (n + 1) u)) t.balanced
    ∙ counted_more u n (get_or u n mark.Program) balance (mark_there u n t.read.inside) (room_there u n balance paren t.plain t.read) t.read.counted

told_there : {u : List Mark} {n balance : ℕ} {paren : Bool} {balance_next : ℕ} {paren_next ended : Bool} → IsTurn u n balance paren balance_next paren_next ended
    → paren_next ≡ is_after is_close_paren u (greatest_below (raises u) (n + 1))
told_there {u} {n} {balance} {paren} t =
    let one : suc n ≡ n + 1 = omega arith in
    t.opened ∙ paren_more u n balance paren t.read.counted t.read.told ∙ ap (λ (m : ℕ). is_after is_close_paren u (greatest_below (raises u) m)) one

pub turn_ended : {u : List Mark} {n balance : ℕ} {paren : Bool} {balance_next : ℕ} {paren_next ended : Bool} → IsTurn u n balance paren balance_next paren_next ended
    → ends_after u (n + 1) ≡ ended
turn_ended {u} {n} {balance} {paren} {balance_next} {paren_next} t =
    let one : n + 1 ≡ suc n = omega arith in
    let x : Mark = get_or u n mark.Program in
    let first : slice_get u 0 ≡ Some (get_or u 0 mark.Program) = mark_there u 0 (omega (arith, t.read.inside)) in
    ap (ends_after u) one
    ∙ turn u n x balance_next paren_next t.plain (mark_there u n t.read.inside)
    (subst (λ (m : ℕ). balance_next + count_by is_close (take m u) ≡ count_by is_open (take m u)) one (counted_there t))
    (subst (λ (m : ℕ). paren_next ≡ is_after is_close_paren u (greatest_below (raises u) m)) one (told_there t))
    ∙ ap (λ (o : Option Mark). plain_ends_at (balance_next == 0) x (some_is is_body o || paren_next) (slice_get u (suc n))) first
    ∙ ap (λ (m : ℕ). plain_ends_at (balance_next == 0) x (is_body (get_or u 0 mark.Program) || paren_next) (slice_get u m)) (sym one)
    ∙ sym t.tested

-- one mark more is read
small_by : (a b : Bool) (balance n : ℕ) → balance ≤ n → cond a (balance + 1) (cond b (balance - 1) balance) ≤ n + 1
small_by true b balance n h = omega arith
small_by false true balance n h = omega arith
small_by false false balance n h = omega arith

more_there : (u : List Mark) (n : ℕ) → ends_before (take (n + 1) u) (slice_get u (n + 1)) ≡ false → n + 1 < length u
more_there u n off =
    elim (cases_lt (n + 1) (length u)) [
      | inl less ↦ less
      | inr past ↦
          let end : ends_before (take (n + 1) u) (slice_get u (n + 1)) ≡ true = ap (ends_before (take (n + 1) u)) (slice_get_past u (n + 1) past) in cc
    ]

pub turn_read : {u : List Mark} {n balance : ℕ} {paren : Bool} {balance_next : ℕ} {paren_next ended : Bool} → IsTurn u n balance paren balance_next paren_next ended
    → ended ≡ false → IsRead u (n + 1) balance_next paren_next
turn_read {u} {n} {balance} {paren} {balance_next} {paren_next} t off =
    let here : ends_after u (n + 1) ≡ false = turn_ended t ∙ off in
    record {
      inside = more_there u n here;
      small = subst (λ (b : ℕ). b ≤ n + 1) (sym t.balanced) (small_by (is_open (get_or u n mark.Program)) (is_close (get_or u n mark.Program)) balance n t.read.small);
      counted = counted_there t;
      told = told_there t;
      unended = λ m low high.
          elim (cases_lt m (n + 1)) [
            | inl less ↦ t.read.unended m low (omega arith)
            | inr more ↦ let same : n + 1 ≡ m = omega arith in subst (λ (i : ℕ). ends_after u i ≡ false) same here
          ];
    }

-- the item ends after the mark
pub turn_is_item : {u : List Mark} {n balance : ℕ} {paren : Bool} {balance_next : ℕ} {paren_next ended : Bool} → IsTurn u n balance paren balance_next paren_next ended
    → ended ≡ true → item u ≡ n + 1
turn_is_item {u} {n} {balance} {paren} t on =
    item_is u (n + 1) (omega (arith, t.read.inside)) (record {
      above = omega arith;
      passes = turn_ended t ∙ on;
      none = λ m low high. t.read.unended m low (omega arith);
    })
