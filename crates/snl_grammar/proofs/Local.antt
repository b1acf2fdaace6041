-- Readers look no further than the token after what they take, or the one that they blame.
use Rattle.std.proofs.Common.{◌≡◌, ℕ, zero, suc, ◌+◌, ◌<◌, ◌≤◌, Bool, true, false, cond, List, [], ◌∷◌, ◌++◌, length, Option, Some, None, Ok, Err, refl, sym, ap, ◌∙◌, append_assoc, inl, inr, ◌⊎◌, arith}
use Rattle.std.specs.Prelude.{option_to_list}
use Rattle.std.proofs.lemmas.List.{append_cancel_right, length-append}
use Rattle.snl_lex.specs.declared.kind.Kind.{Kind}
use Rattle.snl_grammar.specs.declared.step.Step.{Step}
use Rattle.snl_grammar.specs.declared.step.Step.TheVariants as steps
use Rattle.snl_grammar.specs.Tokens.{NumberedKind, same}
use Rattle.snl_grammar.specs.Steps.{Outcome, Reader, and_then, pure, refuse, kind_at, expect, accept, more_or, many_within, many, again_or, until_within, until, within}

-- What is read, and the token that is blamed, depend on no token past the next one.
pub record Local {A : Type 0} (p : Reader A) : Type 0 where
  -- it took a front
  pub took : (k : List NumberedKind) (x : A) (m : List NumberedKind) → p k ≡ Ok (x, m) → (front : List NumberedKind) × (k ≡ front ++ m)
  pub blamed : (k j : List NumberedKind) → p k ≡ Err j → (front : List NumberedKind) × (k ≡ front ++ j)
  -- and takes it whatever is past the next token
  pub reads : (front : List NumberedKind) (s : NumberedKind) (j more : List NumberedKind) (x : A) → p (front ++ s ∷ j) ≡ Ok (x, s ∷ j) → p (front ++ s ∷ more) ≡ Ok (x, s ∷ more)
  pub fails : (front : List NumberedKind) (s : NumberedKind) (j more : List NumberedKind) → p (front ++ s ∷ j) ≡ Err (s ∷ j) → p (front ++ s ∷ more) ≡ Err (s ∷ more)

-- ---- one after another

pub bind_ok : {A B : Type 0} {C : Type 0} (o : Outcome A) (f : A → Reader B) (y : B × List NumberedKind) → and_then o f ≡ Ok y → ((x : A) (m : List NumberedKind) → o ≡ Ok (x, m) → f x m ≡ Ok y → C) → C
unfolding and_then
bind_ok (Ok p) f y e go = go p.0 p.1 refl e
bind_ok (Err j) f y e go = absurd cc

pub bind_err : {A B : Type 0} {C : Type 0} (o : Outcome A) (f : A → Reader B) (j : List NumberedKind) → and_then o f ≡ Err j → (o ≡ Err j → C) → ((x : A) (m : List NumberedKind) → o ≡ Ok (x, m) → f x m ≡ Err j → C) → C
unfolding and_then
bind_err (Ok p) f j e failed go = go p.0 p.1 refl e
bind_err (Err i) f j e failed go = let h : i ≡ j = cc in failed (ap (λ (l : List NumberedKind). Err l) h)

pub bind_is : {A B : Type 0} (o : Outcome A) (f : A → Reader B) (x : A) (m : List NumberedKind) (r : Outcome B) → o ≡ Ok (x, m) → f x m ≡ r → and_then o f ≡ r
unfolding and_then
bind_is o f x m r e h = rw e h

pub bind_no : {A B : Type 0} (o : Outcome A) (f : A → Reader B) (j : List NumberedKind) → o ≡ Err j → and_then o f ≡ Err j
unfolding and_then
bind_no o f j e = rw e refl

-- The reader stopped at m, before or at the place s ∷ j: so the front is what it took, and what is
-- left of the front.
splits : (front f1 m f2 : List NumberedKind) (s : NumberedKind) (j : List NumberedKind) → front ++ s ∷ j ≡ f1 ++ m → m ≡ f2 ++ s ∷ j → front ≡ f1 ++ f2
splits front f1 m f2 s j e h =
    let t : front ++ s ∷ j ≡ (f1 ++ f2) ++ s ∷ j = e ∙ ap (λ (l : List NumberedKind). f1 ++ l) h ∙ sym (append_assoc f1 f2 (s ∷ j)) in
    append_cancel_right front (f1 ++ f2) (s ∷ j) t

-- A local reader at f1, then f2, then s: the next token is the first of f2, or s.
reads_on : {A : Type 0} (p : Reader A) → Local p → (f1 f2 : List NumberedKind) (s : NumberedKind) (j more : List NumberedKind) (x : A) → p (f1 ++ (f2 ++ s ∷ j)) ≡ Ok (x, f2 ++ s ∷ j) → p (f1 ++ (f2 ++ s ∷ more)) ≡ Ok (x, f2 ++ s ∷ more)
reads_on p local f1 [] s j more x e = local.reads f1 s j more x e
reads_on p local f1 (s' ∷ f2) s j more x e = local.reads f1 s' (f2 ++ s ∷ j) (f2 ++ s ∷ more) x e

-- the first reader stops in the same place, whatever is past s
first_on : {A : Type 0} (p : Reader A) → Local p → (front f1 f2 : List NumberedKind) (s : NumberedKind) (j more : List NumberedKind) (x : A) (m : List NumberedKind) → front ≡ f1 ++ f2 → m ≡ f2 ++ s ∷ j → p (front ++ s ∷ j) ≡ Ok (x, m) → p (front ++ s ∷ more) ≡ Ok (x, f2 ++ s ∷ more)
first_on p local front f1 f2 s j more x m w h e =
    let at : (l : List NumberedKind) → front ++ s ∷ l ≡ f1 ++ (f2 ++ s ∷ l) = λ (l : List NumberedKind). ap (λ (q : List NumberedKind). q ++ s ∷ l) w ∙ append_assoc f1 f2 (s ∷ l) in
    let was = sym (ap p (at j)) ∙ e ∙ ap (λ (l : List NumberedKind). Ok (x, l)) h in
    ap p (at more) ∙ reads_on p local f1 f2 s j more x was

reads_both : {A B : Type 0} (p : Reader A) (f : A → Reader B) → Local p → (front f1 f2 : List NumberedKind) (s : NumberedKind) (j more : List NumberedKind) (x : A) → Local (f x) → (m : List NumberedKind) (y : B) → front ≡ f1 ++ f2 → m ≡ f2 ++ s ∷ j → p (front ++ s ∷ j) ≡ Ok (x, m) → f x m ≡ Ok (y, s ∷ j) → and_then (p (front ++ s ∷ more)) f ≡ Ok (y, s ∷ more)
reads_both p f local front f1 f2 s j more x second m y w h e1 e2 =
    bind_is (p (front ++ s ∷ more)) f x (f2 ++ s ∷ more) _ (first_on p local front f1 f2 s j more x m w h e1) (second.reads f2 s j more y (sym (ap (f x) h) ∙ e2))

fails_both : {A B : Type 0} (p : Reader A) (f : A → Reader B) → Local p → (front f1 f2 : List NumberedKind) (s : NumberedKind) (j more : List NumberedKind) (x : A) → Local (f x) → (m : List NumberedKind) → front ≡ f1 ++ f2 → m ≡ f2 ++ s ∷ j → p (front ++ s ∷ j) ≡ Ok (x, m) → f x m ≡ Err (s ∷ j) → and_then (p (front ++ s ∷ more)) f ≡ Err (s ∷ more)
fails_both p f local front f1 f2 s j more x second m w h e1 e2 =
    bind_is (p (front ++ s ∷ more)) f x (f2 ++ s ∷ more) _ (first_on p local front f1 f2 s j more x m w h e1) (second.fails f2 s j more (sym (ap (f x) h) ∙ e2))

pub bind_local : {A B : Type 0} (p : Reader A) (f : A → Reader B) → Local p → ((x : A) → Local (f x)) → Local (λ k. and_then (p k) f)
bind_local p f local locals = record {
  took = λ k y m e. bind_ok (p k) f (y, m) e (λ x m' e1 e2.
      let a = local.took k x m' e1 in
      let b = (locals x).took m' y m e2 in
      (a.0 ++ b.0, a.1 ∙ ap (λ (l : List NumberedKind). a.0 ++ l) b.1 ∙ sym (append_assoc a.0 b.0 m)));
  blamed = λ k j e. bind_err (p k) f j e (λ e1. local.blamed k j e1) (λ x m' e1 e2.
      let a = local.took k x m' e1 in
      let b = (locals x).blamed m' j e2 in
      (a.0 ++ b.0, a.1 ∙ ap (λ (l : List NumberedKind). a.0 ++ l) b.1 ∙ sym (append_assoc a.0 b.0 j)));
  reads = λ front s j more y e. bind_ok (p (front ++ s ∷ j)) f (y, s ∷ j) e (λ x m e1 e2.
      let a = local.took (front ++ s ∷ j) x m e1 in
      let b = (locals x).took m y (s ∷ j) e2 in
      let w = splits front a.0 m b.0 s j a.1 b.1 in
      reads_both p f local front a.0 b.0 s j more x (locals x) m y w b.1 e1 e2);
  fails = λ front s j more e. bind_err (p (front ++ s ∷ j)) f (s ∷ j) e
      (λ e1. bind_no (p (front ++ s ∷ more)) f (s ∷ more) (local.fails front s j more e1))
      (λ x m e1 e2.
      let a = local.took (front ++ s ∷ j) x m e1 in
      let b = (locals x).blamed m (s ∷ j) e2 in
      let w = splits front a.0 m b.0 s j a.1 b.1 in
      fails_both p f local front a.0 b.0 s j more x (locals x) m w b.1 e1 e2);
}

-- ---- the other steps

pub ok_is : {A : Type 0} (a b : A) (k l : List NumberedKind) → (let p : Outcome A = Ok (a, k) in p ≡ Ok (b, l)) → (a ≡ b) × (k ≡ l)
ok_is {A} a b k l e =
    let p : A × List NumberedKind = (a, k) in
    let q : A × List NumberedKind = (b, l) in
    let h : p ≡ q = cc in
    (ap (λ (r : A × List NumberedKind). r.0) h, ap (λ (r : A × List NumberedKind). r.1) h)

pub err_is : {A : Type 0} (k l : List NumberedKind) → (let p : Outcome A = Err k in p ≡ Err l) → k ≡ l
err_is k l e = cc

-- a front that is followed by the same is empty
pub no_front : (front m : List NumberedKind) → front ++ m ≡ m → front ≡ []
no_front front m e = append_cancel_right front [] m e

pub pure_local : {A : Type 0} (x : A) → Local (pure x)
pure_local x = record {
  took = λ k y m e. ([], (ok_is x y k m e).1);
  blamed = λ k j e. absurd cc;
  reads = λ front s j more y e.
      let v = ok_is x y (front ++ s ∷ j) (s ∷ j) e in
      let w = no_front front (s ∷ j) v.1 in
      ap (λ (l : List NumberedKind). Ok (x, l ++ s ∷ more)) w ∙ ap (λ z. Ok (z, s ∷ more)) v.0;
  fails = λ front s j more e. absurd cc;
}

pub refuse_local : {A : Type 0} → Local {A = A} refuse
refuse_local = record {
  took = λ k y m e. absurd cc;
  blamed = λ k j e. ([], err_is k j e);
  reads = λ front s j more y e. absurd cc;
  fails = λ front s j more e.
      let w = no_front front (s ∷ j) (err_is (front ++ s ∷ j) (s ∷ j) e) in
      ap (λ (l : List NumberedKind). Err (l ++ s ∷ more)) w;
}

same_next : (front : List NumberedKind) (s : NumberedKind) (j more : List NumberedKind) → kind_at (front ++ s ∷ j) ≡ kind_at (front ++ s ∷ more)
unfolding kind_at
same_next [] s j more = refl
same_next (s' ∷ front) s j more = refl

-- a choice by the next token
pub choice_local : {A : Type 0} (by : Option Kind → Reader A) → ((o : Option Kind) → Local (by o)) → Local (λ k. by (kind_at k) k)
choice_local by locals = record {
  took = λ k y m e. (locals (kind_at k)).took k y m e;
  blamed = λ k j e. (locals (kind_at k)).blamed k j e;
  reads = λ front s j more y e. ap (λ o. by o (front ++ s ∷ more)) (sym (same_next front s j more)) ∙ (locals (kind_at (front ++ s ∷ j))).reads front s j more y e;
  fails = λ front s j more e. ap (λ o. by o (front ++ s ∷ more)) (sym (same_next front s j more)) ∙ (locals (kind_at (front ++ s ∷ j))).fails front s j more e;
}

pub chosen : {A : Type 0} (b : Bool) (x y z : A) → cond b x y ≡ z → ((b ≡ true) × (x ≡ z)) ⊎ ((b ≡ false) × (y ≡ z))
chosen true x y z e = inl (refl, e)
chosen false x y z e = inr (refl, e)

err_rest : (k l : List NumberedKind) → (let p : Outcome ℕ = Err k in p ≡ Err l) → k ≡ l
err_rest k l e = cc

expect_reads : (x : Kind) (front : List NumberedKind) (s : NumberedKind) (j more : List NumberedKind) (n : ℕ) → expect x (front ++ s ∷ j) ≡ Ok (n, s ∷ j) → expect x (front ++ s ∷ more) ≡ Ok (n, s ∷ more)
unfolding expect
expect_reads x [] s j more n e =
    elim (chosen (same s.0 x) (Ok (s.1, j)) (Err (s ∷ j)) (Ok (n, s ∷ j)) e) [
      | inl h ↦
          let v = ok_is s.1 n j (s ∷ j) h.1 in
          let long : (s ∷ []) ++ j ≡ j = sym v.1 in
          let none : s ∷ [] ≡ [] = no_front (s ∷ []) j long in
          absurd cc
      | inr h ↦ absurd cc
    ]
expect_reads x (s' ∷ front) s j more n e =
    elim (chosen (same s'.0 x) (Ok (s'.1, front ++ s ∷ j)) (Err (s' ∷ (front ++ s ∷ j))) (Ok (n, s ∷ j)) e) [
      | inl h ↦
          let v = ok_is s'.1 n (front ++ s ∷ j) (s ∷ j) h.1 in
          let w = no_front front (s ∷ j) v.1 in
          rw h.0 (ap (λ (l : List NumberedKind). Ok (s'.1, l ++ s ∷ more)) w ∙ ap (λ (i : ℕ). Ok (i, s ∷ more)) v.0)
      | inr h ↦ absurd cc
    ]

expect_fails : (x : Kind) (front : List NumberedKind) (s : NumberedKind) (j more : List NumberedKind) → expect x (front ++ s ∷ j) ≡ Err (s ∷ j) → expect x (front ++ s ∷ more) ≡ Err (s ∷ more)
unfolding expect
expect_fails x [] s j more e =
    elim (chosen (same s.0 x) (Ok (s.1, j)) (Err (s ∷ j)) (Err (s ∷ j)) e) [
      | inl h ↦ absurd cc
      | inr h ↦ rw h.0 refl
    ]
expect_fails x (s' ∷ front) s j more e =
    elim (chosen (same s'.0 x) (Ok (s'.1, front ++ s ∷ j)) (Err (s' ∷ (front ++ s ∷ j))) (Err (s ∷ j)) e) [
      | inl h ↦ absurd cc
      | inr h ↦
          let long : (s' ∷ front) ++ s ∷ j ≡ s ∷ j = err_rest (s' ∷ (front ++ s ∷ j)) (s ∷ j) h.1 in
          let none : s' ∷ front ≡ [] = no_front (s' ∷ front) (s ∷ j) long in
          absurd cc
    ]

expect_took : (x : Kind) (k : List NumberedKind) (n : ℕ) (m : List NumberedKind) → expect x k ≡ Ok (n, m) → (front : List NumberedKind) × (k ≡ front ++ m)
unfolding expect
expect_took x [] n m e = absurd cc
expect_took x (s ∷ k) n m e =
    elim (chosen (same s.0 x) (Ok (s.1, k)) (Err (s ∷ k)) (Ok (n, m)) e) [
      | inl h ↦ (s ∷ [], ap (λ (l : List NumberedKind). s ∷ l) (ok_is s.1 n k m h.1).1)
      | inr h ↦ absurd cc
    ]

expect_blamed : (x : Kind) (k j : List NumberedKind) → expect x k ≡ Err j → (front : List NumberedKind) × (k ≡ front ++ j)
unfolding expect
expect_blamed x [] j e = ([], err_rest [] j e)
expect_blamed x (s ∷ k) j e =
    elim (chosen (same s.0 x) (Ok (s.1, k)) (Err (s ∷ k)) (Err j) e) [
      | inl h ↦ absurd cc
      | inr h ↦ ([], err_rest (s ∷ k) j h.1)
    ]

pub expect_local : (x : Kind) → Local (expect x)
expect_local x = record { took = expect_took x; blamed = expect_blamed x; reads = expect_reads x; fails = expect_fails x }

-- ---- a word that may be there

accept_took : (x : Kind) (k : List NumberedKind) (b : Bool) (m : List NumberedKind) → accept x k ≡ Ok (b, m) → (front : List NumberedKind) × (k ≡ front ++ m)
unfolding accept
accept_took x [] b m e = ([], (ok_is false b [] m e).1)
accept_took x (s ∷ k) b m e =
    elim (chosen (same s.0 x) (Ok (true, k)) (Ok (false, s ∷ k)) (Ok (b, m)) e) [
      | inl h ↦ (s ∷ [], ap (λ (l : List NumberedKind). s ∷ l) (ok_is true b k m h.1).1)
      | inr h ↦ ([], (ok_is false b (s ∷ k) m h.1).1)
    ]

accept_blamed : (x : Kind) (k j : List NumberedKind) → accept x k ≡ Err j → ⊥
unfolding accept
accept_blamed x [] j e = absurd cc
accept_blamed x (s ∷ k) j e =
    elim (chosen (same s.0 x) (Ok (true, k)) (Ok (false, s ∷ k)) (Err j) e) [
      | inl h ↦ absurd cc
      | inr h ↦ absurd cc
    ]

accept_reads : (x : Kind) (front : List NumberedKind) (s : NumberedKind) (j more : List NumberedKind) (b : Bool) → accept x (front ++ s ∷ j) ≡ Ok (b, s ∷ j) → accept x (front ++ s ∷ more) ≡ Ok (b, s ∷ more)
unfolding accept
accept_reads x [] s j more b e =
    elim (chosen (same s.0 x) (Ok (true, j)) (Ok (false, s ∷ j)) (Ok (b, s ∷ j)) e) [
      | inl h ↦
          let v = ok_is true b j (s ∷ j) h.1 in
          let long : (s ∷ []) ++ j ≡ j = sym v.1 in
          let none : s ∷ [] ≡ [] = no_front (s ∷ []) j long in
          absurd cc
      | inr h ↦ let v = ok_is false b (s ∷ j) (s ∷ j) h.1 in rw h.0 (ap (λ z. Ok (z, s ∷ more)) v.0)
    ]
accept_reads x (s' ∷ front) s j more b e =
    elim (chosen (same s'.0 x) (Ok (true, front ++ s ∷ j)) (Ok (false, s' ∷ (front ++ s ∷ j))) (Ok (b, s ∷ j)) e) [
      | inl h ↦
          let v = ok_is true b (front ++ s ∷ j) (s ∷ j) h.1 in
          let w = no_front front (s ∷ j) v.1 in
          rw h.0 (ap (λ (l : List NumberedKind). Ok (true, l ++ s ∷ more)) w ∙ ap (λ z. Ok (z, s ∷ more)) v.0)
      | inr h ↦
          let v = ok_is false b (s' ∷ (front ++ s ∷ j)) (s ∷ j) h.1 in
          let long : (s' ∷ front) ++ s ∷ j ≡ s ∷ j = v.1 in
          let none : s' ∷ front ≡ [] = no_front (s' ∷ front) (s ∷ j) long in
          absurd cc
    ]

pub accept_local : (x : Kind) → Local (accept x)
accept_local x = record { took = accept_took x; blamed = λ k j e. absurd (accept_blamed x k j e); reads = accept_reads x; fails = λ front s j more e. absurd (accept_blamed x (front ++ s ∷ j) (s ∷ j) e) }

-- ---- what is shorter

pub front_shorter : (k front m : List NumberedKind) → k ≡ front ++ m → length m ≤ length k
front_shorter k front m e = let h : length k ≡ length front + length m = ap length e ∙ length-append front m in omega arith

-- what it leaves is no longer
pub took_shorter : {A : Type 0} (p : Reader A) → Local p → (k : List NumberedKind) (x : A) (m : List NumberedKind) → p k ≡ Ok (x, m) → length m ≤ length k
took_shorter p local k x m e = let t = local.took k x m e in front_shorter k t.0 m t.1

-- what it leaves is shorter
abbrev pub Eats : {A : Type 0} → Reader A → Type 0
Eats {A} p = (k : List NumberedKind) (x : A) (m : List NumberedKind) → p k ≡ Ok (x, m) → length m < length k

abbrev pub EatsSome : {A : Type 0} → Reader (Option A) → Type 0
EatsSome {A} p = (k : List NumberedKind) (x : A) (m : List NumberedKind) → p k ≡ Ok (Some x, m) → length m < length k

abbrev pub EatsMore : {A B : Type 0} → Reader (Step A B) → Type 0
EatsMore {A} p = (k : List NumberedKind) (x : A) (m : List NumberedKind) → p k ≡ Ok (steps.More x, m) → length m < length k

pub expect_eats : (x : Kind) → Eats (expect x)
unfolding expect
expect_eats x [] n m e = absurd cc
expect_eats x (s ∷ k) n m e =
    elim (chosen (same s.0 x) (Ok (s.1, k)) (Err (s ∷ k)) (Ok (n, m)) e) [
      | inl h ↦ let v = ap length (ok_is s.1 n k m h.1).1 in omega arith
      | inr h ↦ absurd cc
    ]

-- a reader that eats, and any other after it
pub bind_eats : {A B : Type 0} (p : Reader A) (f : A → Reader B) → Eats p → ((x : A) → Local (f x)) → Eats (λ k. and_then (p k) f)
bind_eats p f eats locals k y m e = bind_ok (p k) f (y, m) e (λ x m' e1 e2. let a = eats k x m' e1 in let b = took_shorter (f x) (locals x) m' y m e2 in omega arith)

-- any reader, and one after it that eats
pub eats_after : {A B : Type 0} (p : Reader A) (f : A → Reader B) → Local p → ((x : A) → Eats (f x)) → Eats (λ k. and_then (p k) f)
eats_after p f local eats k y m e = bind_ok (p k) f (y, m) e (λ x m' e1 e2. let a = took_shorter p local k x m' e1 in let b = eats x m' y m e2 in omega arith)

pub eats_some : {A : Type 0} (p : Reader (Option A)) → Eats p → EatsSome p
eats_some p eats k x m e = eats k (Some x) m e

pub eats_more : {A B : Type 0} (p : Reader (Step A B)) → Eats p → EatsMore p
eats_more p eats k x m e = eats k (steps.More x) m e

pub none_eats : {A : Type 0} → EatsSome {A = A} (pure None)
none_eats {A} k x m e = let o : Option A = None in let v = ok_is o (Some x) k m e in let h : o ≡ Some x = v.0 in absurd cc

-- ---- lists, in so many turns

more_local : {A : Type 0} (found : List A) (go : List A → Reader (List A)) → ((l : List A) → Local (go l)) → (o : Option A) → Local (more_or found go o)
more_local found go locals None = pure_local found
more_local found go locals (Some x) = locals (found ++ x ∷ [])

within_local : {A : Type 0} (next : Reader (Option A)) → Local next → (n : ℕ) (found : List A) → Local (many_within next n found)
unfolding many_within
within_local next local zero found = pure_local found
within_local next local (suc n) found = bind_local next (more_or found (many_within next n)) local (more_local found (many_within next n) (within_local next local n))

again_local : {A B : Type 0} (found : List A) (go : List A → Reader (List A × B)) → ((l : List A) → Local (go l)) → (o : Step A B) → Local (again_or found go o)
again_local found go locals (steps.More x) = locals (found ++ x ∷ [])
again_local found go locals (steps.Last x y) = pure_local (found ++ option_to_list x, y)

until_within_local : {A B : Type 0} (step : Reader (Step A B)) → Local step → (n : ℕ) (found : List A) → Local (until_within step n found)
unfolding until_within
until_within_local step local zero found = refuse_local
until_within_local step local (suc n) found = bind_local step (again_or found (until_within step n)) local (again_local found (until_within step n) (until_within_local step local n))

-- ---- lists, with as many turns as there are tokens and one more: others that are enough give the
-- same

module _ {A : Type 0} (next : Reader (Option A)) (eats : EatsSome next) where
  option_enough : (n i : ℕ) → ((l : List A) (m : List NumberedKind) → length m < n → length m < i → many_within next n l m ≡ many_within next i l m) → (found : List A) (o : Option A) (m : List NumberedKind) → ((x : A) → o ≡ Some x → (length m < n) × (length m < i)) → more_or found (many_within next n) o m ≡ more_or found (many_within next i) o m
  option_enough n i ih found None m b = refl
  option_enough n i ih found (Some x) m b = let h = b x refl in ih (found ++ x ∷ []) m h.0 h.1

  outcome_enough : (n i : ℕ) → ((l : List A) (m : List NumberedKind) → length m < n → length m < i → many_within next n l m ≡ many_within next i l m) → (found : List A) (o : Outcome (Option A)) → ((x : A) (m : List NumberedKind) → o ≡ Ok (Some x, m) → (length m < n) × (length m < i)) → and_then o (more_or found (many_within next n)) ≡ and_then o (more_or found (many_within next i))
  unfolding and_then
  outcome_enough n i ih found (Err j) b = refl
  outcome_enough n i ih found (Ok p) b = option_enough n i ih found p.0 p.1 (λ x e. b x p.1 (ap (λ (q : Option A). Ok (q, p.1)) e))

  many_enough : (n i : ℕ) (found : List A) (k : List NumberedKind) → length k < n → length k < i → many_within next n found k ≡ many_within next i found k
  unfolding many_within
  many_enough zero i found k hn hi = absurd (omega arith)
  many_enough (suc n) zero found k hn hi = absurd (omega arith)
  many_enough (suc n) (suc i) found k hn hi = outcome_enough n i (many_enough n i) found (next k) (λ x m e. let s = eats k x m e in (omega arith, omega arith))

  some_enough : (found : List A) (k : List NumberedKind) (o : Option A) (m : List NumberedKind) → ((x : A) → o ≡ Some x → length m < length k) → more_or found (many_within next (length k)) o m ≡ more_or found (many next) o m
  unfolding many
  some_enough found k None m b = refl
  some_enough found k (Some x) m b = many_enough (length k) (suc (length m)) (found ++ x ∷ []) m (b x refl) (omega arith)

  each_enough : (found : List A) (k : List NumberedKind) (o : Outcome (Option A)) → ((x : A) (m : List NumberedKind) → o ≡ Ok (Some x, m) → length m < length k) → and_then o (more_or found (many_within next (length k))) ≡ and_then o (more_or found (many next))
  unfolding and_then
  each_enough found k (Err j) b = refl
  each_enough found k (Ok p) b = some_enough found k p.0 p.1 (λ x e. b x p.1 (ap (λ (q : Option A). Ok (q, p.1)) e))

  -- one element after another
  pub many_step : (found : List A) (k : List NumberedKind) → many next found k ≡ and_then (next k) (more_or found (many next))
  unfolding many many_within
  many_step found k = each_enough found k (next k) (λ x m e. eats k x m e)

module _ {A B : Type 0} (step : Reader (Step A B)) (eats : EatsMore step) where
  step_enough : (n i : ℕ) → ((l : List A) (m : List NumberedKind) → length m < n → length m < i → until_within step n l m ≡ until_within step i l m) → (found : List A) (o : Step A B) (m : List NumberedKind) → ((x : A) → o ≡ steps.More x → (length m < n) × (length m < i)) → again_or found (until_within step n) o m ≡ again_or found (until_within step i) o m
  step_enough n i ih found (steps.Last x y) m b = refl
  step_enough n i ih found (steps.More x) m b = let h = b x refl in ih (found ++ x ∷ []) m h.0 h.1

  steps_enough : (n i : ℕ) → ((l : List A) (m : List NumberedKind) → length m < n → length m < i → until_within step n l m ≡ until_within step i l m) → (found : List A) (o : Outcome (Step A B)) → ((x : A) (m : List NumberedKind) → o ≡ Ok (steps.More x, m) → (length m < n) × (length m < i)) → and_then o (again_or found (until_within step n)) ≡ and_then o (again_or found (until_within step i))
  unfolding and_then
  steps_enough n i ih found (Err j) b = refl
  steps_enough n i ih found (Ok p) b = step_enough n i ih found p.0 p.1 (λ x e. b x p.1 (ap (λ (q : Step A B). Ok (q, p.1)) e))

  until_enough : (n i : ℕ) (found : List A) (k : List NumberedKind) → length k < n → length k < i → until_within step n found k ≡ until_within step i found k
  unfolding until_within
  until_enough zero i found k hn hi = absurd (omega arith)
  until_enough (suc n) zero found k hn hi = absurd (omega arith)
  until_enough (suc n) (suc i) found k hn hi = steps_enough n i (until_enough n i) found (step k) (λ x m e. let s = eats k x m e in (omega arith, omega arith))

  after_enough : (found : List A) (k : List NumberedKind) (o : Step A B) (m : List NumberedKind) → ((x : A) → o ≡ steps.More x → length m < length k) → again_or found (until_within step (length k)) o m ≡ again_or found (until step) o m
  unfolding until
  after_enough found k (steps.Last x y) m b = refl
  after_enough found k (steps.More x) m b = until_enough (length k) (suc (length m)) (found ++ x ∷ []) m (b x refl) (omega arith)

  all_enough : (found : List A) (k : List NumberedKind) (o : Outcome (Step A B)) → ((x : A) (m : List NumberedKind) → o ≡ Ok (steps.More x, m) → length m < length k) → and_then o (again_or found (until_within step (length k))) ≡ and_then o (again_or found (until step))
  unfolding and_then
  all_enough found k (Err j) b = refl
  all_enough found k (Ok p) b = after_enough found k p.0 p.1 (λ x e. b x p.1 (ap (λ (q : Step A B). Ok (q, p.1)) e))

  pub until_step : (found : List A) (k : List NumberedKind) → until step found k ≡ and_then (step k) (again_or found (until step))
  unfolding until until_within
  until_step found k = all_enough found k (step k) (λ x m e. eats k x m e)

-- a reader whose number of turns goes by its tokens
fuel_local : {X : Type 0} (q : ℕ → Reader X) → ((n : ℕ) → Local (q n)) → ((n i : ℕ) (k : List NumberedKind) → length k < n → length k < i → q n k ≡ q i k) → Local (λ k. q (suc (length k)) k)
fuel_local q locals enough = record {
  took = λ k x m e. (locals (suc (length k))).took k x m e;
  blamed = λ k j e. (locals (suc (length k))).blamed k j e;
  reads = λ front s j more x e.
      let n : ℕ = suc (length (front ++ s ∷ j) + length (front ++ s ∷ more)) in
      let was = enough n (suc (length (front ++ s ∷ j))) (front ++ s ∷ j) (omega arith) (omega arith) ∙ e in
      enough (suc (length (front ++ s ∷ more))) n (front ++ s ∷ more) (omega arith) (omega arith) ∙ (locals n).reads front s j more x was;
  fails = λ front s j more e.
      let n : ℕ = suc (length (front ++ s ∷ j) + length (front ++ s ∷ more)) in
      let was = enough n (suc (length (front ++ s ∷ j))) (front ++ s ∷ j) (omega arith) (omega arith) ∙ e in
      enough (suc (length (front ++ s ∷ more))) n (front ++ s ∷ more) (omega arith) (omega arith) ∙ (locals n).fails front s j more was;
}

pub many_local : {A : Type 0} (next : Reader (Option A)) → EatsSome next → Local next → (found : List A) → Local (many next found)
unfolding many
many_local next eats local found = fuel_local (λ n. many_within next n found) (λ n. within_local next local n found) (λ n i k hn hi. many_enough next eats n i found k hn hi)

pub until_local : {A B : Type 0} (step : Reader (Step A B)) → EatsMore step → Local step → (found : List A) → Local (until step found)
unfolding until
until_local step eats local found = fuel_local (λ n. until_within step n found) (λ n. until_within_local step local n found) (λ n i k hn hi. until_enough step eats n i found k hn hi)

pub level_local : {A : Type 0} (n : ℕ) (p : Reader A) → Local p → Local (within n p)
unfolding within
level_local zero p local = refuse_local
level_local (suc n) p local = local
