-- What a reader took is in the grammar whatever follows, and where it fails, the tokens before the
-- blamed one can be completed.
use Rattle.std.proofs.Common.{◌≡◌, ℕ, zero, suc, ◌+◌, ◌<◌, Bool, true, false, List, [], ◌∷◌, ◌++◌, length, Option, Some, None, Ok, Err, refl, sym, ap, subst, ◌∙◌, append_assoc, inl, inr, arith}
use Rattle.std.specs.Prelude.{option_to_list}
use Rattle.std.proofs.lemmas.List.{append-nil}
use Rattle.snl_lex.specs.declared.kind.Kind.{Kind}
use Rattle.snl_grammar.specs.declared.step.Step.{Step}
use Rattle.snl_grammar.specs.declared.step.Step.TheVariants as steps
use Rattle.snl_grammar.specs.Tokens.{NumberedKind, same}
use Rattle.snl_grammar.specs.Steps.{Outcome, Reader, and_then, pure, refuse, kind_at, expect, accept, more_or, many_within, many, again_or, until_within, until, within}
use Rattle.snl_grammar.specs.Grammar.Base.{AreFree, Each, Leaf, Within}
use Rattle.snl_grammar.specs.Grammar.Types.{Written}
use Rattle.snl_grammar.proofs.Same.{same_true}
use Rattle.snl_grammar.proofs.Local.{bind_ok, bind_err, chosen, ok_is, err_is}

-- tokens of these kinds, with their numbers
abbrev pub numbered_kinds : ℕ → List Kind → List NumberedKind
numbered_kinds n [] = []
numbered_kinds n (x ∷ xs) = (x, n) ∷ numbered_kinds (suc n) xs

numbered_kinds-append : (n : ℕ) (a b : List Kind) (rest : List NumberedKind) → numbered_kinds n (a ++ b) ++ rest ≡ numbered_kinds n a ++ (numbered_kinds (n + length a) b ++ rest)
numbered_kinds-append n [] b rest = let e : n ≡ n + 0 = omega arith in ap (λ (i : ℕ). numbered_kinds i b ++ rest) e
numbered_kinds-append n (x ∷ a) b rest =
    let e : suc n + length a ≡ n + length (x ∷ a) = omega arith in
    ap (λ (l : List NumberedKind). (x, n) ∷ l) (numbered_kinds-append (suc n) a b rest ∙ ap (λ (i : ℕ). numbered_kinds (suc n) a ++ (numbered_kinds i b ++ rest)) e)

-- some value is written so
abbrev pub Exists : {A : Type 0} → (A → List NumberedKind → List NumberedKind → Type 0) → List NumberedKind → List NumberedKind → Type 0
Exists {A} R k rest = (x : A) × R x k rest

-- one after the other
pub data Both {A B : Type 0} (R : A → List NumberedKind → List NumberedKind → Type 0) (S : A → B → List NumberedKind → List NumberedKind → Type 0) (y : B) (k rest : List NumberedKind) : Type 0 where
  both : (x : A) (m : List NumberedKind) → R x k m → S x y m rest → Both R S y k rest

abbrev pub Joint : {A : Type 0} → (A → List NumberedKind → List NumberedKind → Type 0) → (A → List NumberedKind → List NumberedKind → Type 0) → List NumberedKind → List NumberedKind → Type 0
Joint {A} R H k rest = (x : A) × (m : List NumberedKind) × R x k m × H x m rest

-- The tokens from here on are free of the levels that are left, and there are `extra` more.
module _ (free extra : ℕ) where
  abbrev pub Free : List NumberedKind → Type 0
  Free k = (0 < extra) × AreFree free k

  -- these kinds can be there, and what is wanted is whole
  abbrev pub Makes : (List NumberedKind → List NumberedKind → Type 0) → List Kind → Type 0
  Makes G some = (n : ℕ) (rest : List NumberedKind) → Free (numbered_kinds n some ++ rest) → G (numbered_kinds n some ++ rest) rest

  pub record Viable {A : Type 0} (p : Reader A) (R : A → List NumberedKind → List NumberedKind → Type 0) (G : List NumberedKind → List NumberedKind → Type 0) : Type 0 where
    -- what it took is in the grammar, whatever follows
    pub takes : (k : List NumberedKind) (x : A) (m : List NumberedKind) → p k ≡ Ok (x, m) → (front : List NumberedKind) × (k ≡ front ++ m) × ((after : List NumberedKind) → R x (front ++ after) after)
    -- where it fails, what is before can be completed
    pub stuck : (k j : List NumberedKind) → p k ≡ Err j → (front : List NumberedKind) × (more : List Kind) × (k ≡ front ++ j) × ((n : ℕ) (rest : List NumberedKind) → Free (numbered_kinds n more ++ rest) → G (front ++ (numbered_kinds n more ++ rest)) rest)

after_free : (free : ℕ) (front k : List NumberedKind) → AreFree free (front ++ k) → AreFree free k
after_free zero front k h = absurd h
after_free (suc n) [] k h = h
after_free (suc n) (s ∷ front) k h = after_free (suc n) front k h.1

pub free_after : (free extra : ℕ) (front k : List NumberedKind) → Free free extra (front ++ k) → Free free extra k
free_after free extra front k f = (f.0, after_free free front k f.1)

free_split : (free extra n : ℕ) (a b : List Kind) (rest : List NumberedKind) → Free free extra (numbered_kinds n (a ++ b) ++ rest) → Free free extra (numbered_kinds n a ++ (numbered_kinds (n + length a) b ++ rest))
free_split free extra n a b rest f = subst (Free free extra) (numbered_kinds-append n a b rest) f

module _ (free extra : ℕ) {A B : Type 0} (p : Reader A) (f : A → Reader B) (R : A → List NumberedKind → List NumberedKind → Type 0) (S : A → B → List NumberedKind → List NumberedKind → Type 0) (H : A → List NumberedKind → List NumberedKind → Type 0) (b : List Kind) (first : Viable free extra p R (Exists R)) (second : (x : A) → Viable free extra (f x) (S x) (H x)) (makes : (x : A) → Makes free extra (H x) b) where
  then_takes : (k : List NumberedKind) (y : B) (m : List NumberedKind) → and_then (p k) f ≡ Ok (y, m) → (front : List NumberedKind) × (k ≡ front ++ m) × ((after : List NumberedKind) → Both R S y (front ++ after) after)
  then_takes k y m e = bind_ok (p k) f (y, m) e (λ x m' e1 e2.
      let u = first.takes k x m' e1 in
      let v = (second x).takes m' y m e2 in (
        u.0 ++ v.0,
        u.1 ∙ ap (λ (l : List NumberedKind). u.0 ++ l) v.1 ∙ sym (append_assoc u.0 v.0 m),
        λ after.
            subst (λ (l : List NumberedKind). Both R S y l after) (sym (append_assoc u.0 v.0 after)) (both x (v.0 ++ after) (u.2 (v.0 ++ after)) (v.2 after)),
      ))

  then_stuck : (k j : List NumberedKind) → and_then (p k) f ≡ Err j → (front : List NumberedKind) × (more : List Kind) × (k ≡ front ++ j) × ((n : ℕ) (rest : List NumberedKind) → Free free extra (numbered_kinds n more ++ rest) → Joint R H (front ++ (numbered_kinds n more ++ rest)) rest)
  then_stuck k j e = bind_err (p k) f j e
      (λ e1.
      let u = first.stuck k j e1 in (
        u.0,
        u.1 ++ b,
        u.2,
        λ n rest room.
            let after : List NumberedKind = numbered_kinds (n + length u.1) b ++ rest in
            let room1 = free_split free extra n u.1 b rest room in
            let x = u.3 n after room1 in
            let v = makes x.0 (n + length u.1) rest (free_after free extra (numbered_kinds n u.1) after room1) in
            subst (λ (l : List NumberedKind). Joint R H (u.0 ++ l) rest) (sym (numbered_kinds-append n u.1 b rest)) (x.0, after, x.1, v),
      ))
      (λ x m e1 e2.
      let u = first.takes k x m e1 in
      let v = (second x).stuck m j e2 in (
        u.0 ++ v.0,
        v.1,
        u.1 ∙ ap (λ (l : List NumberedKind). u.0 ++ l) v.2 ∙ sym (append_assoc u.0 v.0 j),
        λ n rest room.
            let after : List NumberedKind = v.0 ++ (numbered_kinds n v.1 ++ rest) in
            subst (λ (l : List NumberedKind). Joint R H l rest) (sym (append_assoc u.0 v.0 (numbered_kinds n v.1 ++ rest))) (x, after, u.2 after, v.3 n rest room),
      ))

  pub bind_viable : Viable free extra (λ k. and_then (p k) f) (Both R S) (Joint R H)
  bind_viable = record { takes = then_takes; stuck = then_stuck }

-- a weaker relation, and a weaker aim
pub lighter : (free extra : ℕ) {A : Type 0} (p : Reader A) (R R' : A → List NumberedKind → List NumberedKind → Type 0) (G G' : List NumberedKind → List NumberedKind → Type 0) → ((x : A) (k rest : List NumberedKind) → R x k rest → R' x k rest) → ((k rest : List NumberedKind) → G k rest → G' k rest) → Viable free extra p R G → Viable free extra p R' G'
lighter free extra p R R' G G' into aim v = record {
  takes = λ k x m e. let t = v.takes k x m e in (t.0, t.1, λ after. into x (t.0 ++ after) after (t.2 after));
  stuck = λ k j e. let t = v.stuck k j e in (t.0, t.1, t.2, λ n rest room. aim (t.0 ++ (numbered_kinds n t.1 ++ rest)) rest (t.3 n rest room));
}

-- a choice by the next token
pub choice_viable : (free extra : ℕ) {A : Type 0} (by : Option Kind → Reader A) (R : A → List NumberedKind → List NumberedKind → Type 0) (G : List NumberedKind → List NumberedKind → Type 0) → ((d : Option Kind) → Viable free extra (by d) R G) → Viable free extra (λ k. by (kind_at k) k) R G
choice_viable free extra by R G each = record {
  takes = λ k x m e. (each (kind_at k)).takes k x m e;
  stuck = λ k j e. (each (kind_at k)).stuck k j e;
}

pub refuse_viable : (free extra : ℕ) {A : Type 0} (R : A → List NumberedKind → List NumberedKind → Type 0) (G : List NumberedKind → List NumberedKind → Type 0) (some : List Kind) → Makes free extra G some → Viable free extra {A = A} refuse R G
refuse_viable free extra R G some makes = record {
  takes = λ k x m e. absurd cc;
  stuck = λ k j e. ([], some, err_is k j e, λ n rest room. makes n rest room);
}

-- ---- a reader with its relation, and the shortest kinds that it takes

pub record Completable (free extra : ℕ) {A : Type 0} (p : Reader A) (R : A → List NumberedKind → List NumberedKind → Type 0) (some : List Kind) : Type 0 where
  pub viable : Viable free extra p R (Exists R)
  pub makes : Makes free extra (Exists R) some

joint_exists : {A B : Type 0} (R : A → List NumberedKind → List NumberedKind → Type 0) (S : A → B → List NumberedKind → List NumberedKind → Type 0) (k rest : List NumberedKind) → Joint R (λ x. Exists (S x)) k rest → Exists (Both R S) k rest
joint_exists R S k rest h = (h.3.0, both h.0 h.1 h.2 h.3.1)

pub bind_completable : (free extra : ℕ) {A B : Type 0} (p : Reader A) (f : A → Reader B) (R : A → List NumberedKind → List NumberedKind → Type 0) (S : A → B → List NumberedKind → List NumberedKind → Type 0) (a b : List Kind) → Completable free extra p R a → ((x : A) → Completable free extra (f x) (S x) b) → Completable free extra (λ k. and_then (p k) f) (Both R S) (a ++ b)
bind_completable free extra p f R S a b first second = record {
  viable = lighter free extra (λ k. and_then (p k) f) (Both R S) (Both R S) (Joint R (λ x. Exists (S x))) (Exists (Both R S)) (λ x k rest h. h) (joint_exists R S) (bind_viable free extra p f R S (λ x. Exists (S x)) b first.viable (λ x. (second x).viable) (λ x. (second x).makes));
  makes = λ n rest room.
      let after : List NumberedKind = numbered_kinds (n + length a) b ++ rest in
      let room1 = free_split free extra n a b rest room in
      let u = first.makes n after room1 in
      let v = (second u.0).makes (n + length a) rest (free_after free extra (numbered_kinds n a) after room1) in
      (v.0, subst (λ (l : List NumberedKind). Both R S v.0 l rest) (sym (numbered_kinds-append n a b rest)) (both u.0 after u.1 v.1));
}

pub into_completable : (free extra : ℕ) {A : Type 0} (p : Reader A) (R R' : A → List NumberedKind → List NumberedKind → Type 0) (some : List Kind) → ((x : A) (k rest : List NumberedKind) → R x k rest → R' x k rest) → Completable free extra p R some → Completable free extra p R' some
into_completable free extra p R R' some into v = record {
  viable = lighter free extra p R R' (Exists R) (Exists R') into (λ k rest h. (h.0, into h.0 k rest h.1)) v.viable;
  makes = λ n rest room. let t = v.makes n rest room in (t.0, into t.0 (numbered_kinds n some ++ rest) rest t.1);
}

-- ---- a token, a word that may be there, and a value

expect_takes : (x : Kind) (k : List NumberedKind) (n : ℕ) (m : List NumberedKind) → expect x k ≡ Ok (n, m) → (front : List NumberedKind) × (k ≡ front ++ m) × ((after : List NumberedKind) → Leaf x n (front ++ after) after)
unfolding expect
expect_takes x [] n m e = absurd cc
expect_takes x (s ∷ k) n m e =
    elim (chosen (same s.0 x) (Ok (s.1, k)) (Err (s ∷ k)) (Ok (n, m)) e) [
      | inl h ↦
          let v = ok_is s.1 n k m h.1 in
          (s ∷ [], ap (λ (l : List NumberedKind). s ∷ l) v.1, λ after. ap (λ (d : Kind). (d, s.1) ∷ after) (same_true s.0 x h.0) ∙ ap (λ (i : ℕ). (x, i) ∷ after) v.0)
      | inr h ↦ absurd cc
    ]

same_err : (k l : List NumberedKind) → (let p : Outcome ℕ = Err k in p ≡ Err l) → k ≡ l
same_err k l e = cc

expect_stuck : (free extra : ℕ) (x : Kind) (k j : List NumberedKind) → expect x k ≡ Err j → (front : List NumberedKind) × (more : List Kind) × (k ≡ front ++ j) × ((n : ℕ) (rest : List NumberedKind) → Free free extra (numbered_kinds n more ++ rest) → Exists (Leaf x) (front ++ (numbered_kinds n more ++ rest)) rest)
unfolding expect
expect_stuck free extra x [] j e = ([], x ∷ [], same_err [] j e, λ n rest room. (n, refl))
expect_stuck free extra x (s ∷ k) j e =
    elim (chosen (same s.0 x) (Ok (s.1, k)) (Err (s ∷ k)) (Err j) e) [
      | inl h ↦ absurd cc
      | inr h ↦ ([], x ∷ [], same_err (s ∷ k) j h.1, λ n rest room. (n, refl))
    ]

pub expect_completable : (free extra : ℕ) (x : Kind) → Completable free extra (expect x) (Leaf x) (x ∷ [])
expect_completable free extra x = record { viable = record { takes = expect_takes x; stuck = expect_stuck free extra x }; makes = λ n rest room. (n, refl) }

written_takes : (x : Kind) (k : List NumberedKind) (b : Bool) (m : List NumberedKind) → accept x k ≡ Ok (b, m) → (front : List NumberedKind) × (k ≡ front ++ m) × ((after : List NumberedKind) → Written x b (front ++ after) after)
unfolding accept
written_takes x [] b m e = let v = ok_is false b [] m e in ([], v.1, λ after. subst (λ (c : Bool). Written x c after after) v.0 refl)
written_takes x (s ∷ k) b m e =
    elim (chosen (same s.0 x) (Ok (true, k)) (Ok (false, s ∷ k)) (Ok (b, m)) e) [
      | inl h ↦
          let v = ok_is true b k m h.1 in
          (s ∷ [], ap (λ (l : List NumberedKind). s ∷ l) v.1, λ after. subst (λ (c : Bool). Written x c (s ∷ after) after) v.0 (s.1, ap (λ (d : Kind). (d, s.1) ∷ after) (same_true s.0 x h.0)))
      | inr h ↦ let v = ok_is false b (s ∷ k) m h.1 in ([], v.1, λ after. subst (λ (c : Bool). Written x c after after) v.0 refl)
    ]

accept_never : (x : Kind) (k j : List NumberedKind) → accept x k ≡ Err j → ⊥
unfolding accept
accept_never x [] j e = absurd cc
accept_never x (s ∷ k) j e =
    elim (chosen (same s.0 x) (Ok (true, k)) (Ok (false, s ∷ k)) (Err j) e) [
      | inl h ↦ absurd cc
      | inr h ↦ absurd cc
    ]

pub accept_completable : (free extra : ℕ) (x : Kind) → Completable free extra (accept x) (Written x) []
accept_completable free extra x = record { viable = record { takes = written_takes x; stuck = λ k j e. absurd (accept_never x k j e) }; makes = λ n rest room. (false, refl) }

abbrev pub IsNothing : {A : Type 0} → A → A → List NumberedKind → List NumberedKind → Type 0
IsNothing x y k rest = (x ≡ y) × (k ≡ rest)

pub pure_completable : (free extra : ℕ) {A : Type 0} (x : A) → Completable free extra (pure x) (IsNothing x) []
pure_completable free extra x = record {
  viable = record { takes = λ k y m e. let v = ok_is x y k m e in ([], v.1, λ after. (v.0, refl)); stuck = λ k j e. absurd cc };
  makes = λ n rest room. (x, (refl, refl));
}

-- a value is never stuck, whatever comes next
pub pure_never : (free extra : ℕ) {A : Type 0} (x : A) (G : List NumberedKind → List NumberedKind → Type 0) → Viable free extra (pure x) (IsNothing x) G
pure_never free extra x G = record { takes = (pure_completable free extra x).viable.takes; stuck = λ k j e. absurd cc }

-- ---- lists

-- an element, or the end
abbrev pub Next : {A : Type 0} → (A → List NumberedKind → List NumberedKind → Type 0) → Option A → List NumberedKind → List NumberedKind → Type 0
Next E None k rest = k ≡ rest
Next E (Some x) k rest = E x k rest

-- the elements after those that were found
abbrev pub Lists : {A : Type 0} → (A → List NumberedKind → List NumberedKind → Type 0) → List A → List A → List NumberedKind → List NumberedKind → Type 0
Lists {A} E found all k rest = (xs : List A) × (all ≡ found ++ xs) × Each E xs k rest

abbrev After : {A : Type 0} → (A → List NumberedKind → List NumberedKind → Type 0) → List A → Option A → List A → List NumberedKind → List NumberedKind → Type 0
After E found None = IsNothing found
After E found (Some x) = Lists E (found ++ x ∷ [])

nothing_more : {A : Type 0} (E : A → List NumberedKind → List NumberedKind → Type 0) (found all : List A) (k rest : List NumberedKind) → IsNothing found all k rest → Lists E found all k rest
nothing_more E found all k rest h = ([], sym h.0 ∙ sym (append-nil found), h.1)

joins : {A : Type 0} (E : A → List NumberedKind → List NumberedKind → Type 0) (found : List A) (o : Option A) (all : List A) (k m rest : List NumberedKind) → Next E o k m → After E found o all m rest → Lists E found all k rest
joins E found None all k m rest h a = ([], sym a.0 ∙ sym (append-nil found), h ∙ a.1)
joins E found (Some x) all k m rest h a = (x ∷ a.0, a.1 ∙ append_assoc found (x ∷ []) a.0, (m, h, a.2))

joined_both : {A : Type 0} (E : A → List NumberedKind → List NumberedKind → Type 0) (found all : List A) (k rest : List NumberedKind) → Both (Next E) (After E found) all k rest → Lists E found all k rest
joined_both E found all k rest (both o m h a) = joins E found o all k m rest h a

module _ (free extra : ℕ) {A : Type 0} (E : A → List NumberedKind → List NumberedKind → Type 0) (next : Reader (Option A)) (v : Viable free extra next (Next E) (Exists (Next E))) where
  none_makes : (n : ℕ) (rest : List NumberedKind) → Free free extra (numbered_kinds n [] ++ rest) → Exists (Next E) (numbered_kinds n [] ++ rest) rest
  none_makes n rest room = (None, refl)

  more_completable : (found : List A) (go : List A → Reader (List A)) → ((l : List A) → Completable free extra (go l) (Lists E l) []) → (o : Option A) → Completable free extra (more_or found go o) (After E found o) []
  more_completable found go each None = pure_completable free extra found
  more_completable found go each (Some x) = each (found ++ x ∷ [])

  pub within_completable : (n : ℕ) (found : List A) → Completable free extra (many_within next n found) (Lists E found) []
  unfolding many_within
  within_completable zero found = into_completable free extra (pure found) (IsNothing found) (Lists E found) [] (nothing_more E found) (pure_completable free extra found)
  within_completable (suc n) found =
      into_completable free extra (λ k. and_then (next k) (more_or found (many_within next n))) (Both (Next E) (After E found)) (Lists E found) [] (joined_both E found)
      (bind_completable free extra next (more_or found (many_within next n)) (Next E) (After E found) [] [] (record { viable = v; makes = none_makes }) (more_completable found (many_within next n) (within_completable n)))

  pub many_completable : (found : List A) → Completable free extra (many next found) (Lists E found) []
  unfolding many
  many_completable found = record {
    viable = record { takes = λ k x m e. (within_completable (suc (length k)) found).viable.takes k x m e; stuck = λ k j e. (within_completable (suc (length k)) found).viable.stuck k j e };
    makes = (within_completable 0 found).makes;
  }

-- ---- lists that something else ends

abbrev pub StepOf : {A B : Type 0} → (A → List NumberedKind → List NumberedKind → Type 0) → (Option A → B → List NumberedKind → List NumberedKind → Type 0) → Step A B → List NumberedKind → List NumberedKind → Type 0
StepOf E L (steps.More x) k rest = E x k rest
StepOf E L (steps.Last o y) k rest = L o y k rest

-- the elements after those that were found, and what ends them
abbrev pub Ends : {A B : Type 0} → (A → List NumberedKind → List NumberedKind → Type 0) → (Option A → B → List NumberedKind → List NumberedKind → Type 0) → List A → List A × B → List NumberedKind → List NumberedKind → Type 0
Ends {A} E L found r k rest = (xs : List A) × (o : Option A) × (mid : List NumberedKind) × (r.0 ≡ found ++ (xs ++ option_to_list o)) × Each E xs k mid × L o r.1 mid rest

-- elements and what ends them, whatever they are
abbrev pub Whole : {A B : Type 0} → (A → List NumberedKind → List NumberedKind → Type 0) → (Option A → B → List NumberedKind → List NumberedKind → Type 0) → List NumberedKind → List NumberedKind → Type 0
Whole {A} {B} E L k rest = (xs : List A) × (o : Option A) × (y : B) × (mid : List NumberedKind) × Each E xs k mid × L o y mid rest

module _ (free extra : ℕ) {A B : Type 0} (E : A → List NumberedKind → List NumberedKind → Type 0) (L : Option A → B → List NumberedKind → List NumberedKind → Type 0) (step : Reader (Step A B)) (some : List Kind) (v : Viable free extra step (StepOf E L) (Whole E L)) (makes : Makes free extra (Whole E L) some) where
  last_ends : (found : List A) (o : Option A) (y : B) (r : List A × B) (k m rest : List NumberedKind) → L o y k m → (found ++ option_to_list o, y) ≡ r → m ≡ rest → Ends E L found r k rest
  last_ends found o y r k m rest l e h =
      ([], o, k, sym (ap (λ (q : List A × B). q.0) e), refl, subst (λ (q : List A × B). L o q.1 k rest) e (subst (λ (q : List NumberedKind). L o y k q) h l))

  more_ends : (found : List A) (x : A) (r : List A × B) (k m rest : List NumberedKind) → E x k m → Ends E L (found ++ x ∷ []) r m rest → Ends E L found r k rest
  more_ends found x r k m rest h a = (x ∷ a.0, a.1, a.2, a.3 ∙ append_assoc found (x ∷ []) (a.0 ++ option_to_list a.1), (m, h, a.4), a.5)

  more_whole : (x : A) (k m rest : List NumberedKind) → E x k m → Whole E L m rest → Whole E L k rest
  more_whole x k m rest h a = (x ∷ a.0, a.1, a.2, a.3, (m, h, a.4), a.5)

  step_takes : (n : ℕ) → ((l : List A) → Viable free extra (until_within step n l) (Ends E L l) (Whole E L)) → (found : List A) (s : Step A B) (k m' : List NumberedKind) (r : List A × B) (m : List NumberedKind) → step k ≡ Ok (s, m') → again_or found (until_within step n) s m' ≡ Ok (r, m) → (front : List NumberedKind) × (k ≡ front ++ m) × ((after : List NumberedKind) → Ends E L found r (front ++ after) after)
  step_takes n go found (steps.More x) k m' r m e1 e2 =
      let u = v.takes k (steps.More x) m' e1 in
      let w = (go (found ++ x ∷ [])).takes m' r m e2 in (
        u.0 ++ w.0,
        u.1 ∙ ap (λ (l : List NumberedKind). u.0 ++ l) w.1 ∙ sym (append_assoc u.0 w.0 m),
        λ after.
            subst (λ (l : List NumberedKind). Ends E L found r l after) (sym (append_assoc u.0 w.0 after)) (more_ends found x r (u.0 ++ (w.0 ++ after)) (w.0 ++ after) after (u.2 (w.0 ++ after)) (w.2 after)),
      )
  step_takes n go found (steps.Last o y) k m' r m e1 e2 =
      let u = v.takes k (steps.Last o y) m' e1 in
      let w = ok_is (found ++ option_to_list o, y) r m' m e2 in
      (u.0, u.1 ∙ ap (λ (l : List NumberedKind). u.0 ++ l) w.1, λ after. last_ends found o y r (u.0 ++ after) after after (u.2 after) w.0 refl)

  step_stuck : (n : ℕ) → ((l : List A) → Viable free extra (until_within step n l) (Ends E L l) (Whole E L)) → (found : List A) (s : Step A B) (k m j : List NumberedKind) → step k ≡ Ok (s, m) → again_or found (until_within step n) s m ≡ Err j → (front : List NumberedKind) × (more : List Kind) × (k ≡ front ++ j) × ((i : ℕ) (rest : List NumberedKind) → Free free extra (numbered_kinds i more ++ rest) → Whole E L (front ++ (numbered_kinds i more ++ rest)) rest)
  step_stuck n go found (steps.More x) k m j e1 e2 =
      let u = v.takes k (steps.More x) m e1 in
      let w = (go (found ++ x ∷ [])).stuck m j e2 in (
        u.0 ++ w.0,
        w.1,
        u.1 ∙ ap (λ (l : List NumberedKind). u.0 ++ l) w.2 ∙ sym (append_assoc u.0 w.0 j),
        λ i rest room.
            let after : List NumberedKind = w.0 ++ (numbered_kinds i w.1 ++ rest) in
            subst (λ (l : List NumberedKind). Whole E L l rest) (sym (append_assoc u.0 w.0 (numbered_kinds i w.1 ++ rest))) (more_whole x (u.0 ++ after) after rest (u.2 after) (w.3 i rest room)),
      )
  step_stuck n go found (steps.Last o y) k m j e1 e2 = absurd cc

  pub until_within_viable : (n : ℕ) (found : List A) → Viable free extra (until_within step n found) (Ends E L found) (Whole E L)
  unfolding until_within
  until_within_viable zero found = refuse_viable free extra (Ends E L found) (Whole E L) some makes
  until_within_viable (suc n) found = record {
    takes = λ k r m e. bind_ok (step k) (again_or found (until_within step n)) (r, m) e (λ s m' e1 e2. step_takes n (until_within_viable n) found s k m' r m e1 e2);
    stuck = λ k j e. bind_err (step k) (again_or found (until_within step n)) j e (λ e1. v.stuck k j e1) (λ s m e1 e2. step_stuck n (until_within_viable n) found s k m j e1 e2);
  }

  pub until_viable : (found : List A) → Viable free extra (until step found) (Ends E L found) (Whole E L)
  unfolding until
  until_viable found = record { takes = λ k x m e. (until_within_viable (suc (length k)) found).takes k x m e; stuck = λ k j e. (until_within_viable (suc (length k)) found).stuck k j e }

-- ---- what is one level deeper

none : 0 < 0 → ⊥
none h = omega (arith, h)

pub level_completable : (free extra depth : ℕ) {A : Type 0} (p : Reader A) (R : A → List NumberedKind → List NumberedKind → Type 0) (some : List Kind) → Completable free extra p R some → Completable free extra (within depth p) (Within free extra depth R) some
unfolding within
level_completable free extra (suc depth) p R some f = f
level_completable free zero zero p R some f = record { viable = refuse_viable free 0 (Within free 0 0 R) (Exists (Within free 0 0 R)) some (λ n rest room. absurd (none room.0)); makes = λ n rest room. absurd (none room.0) }
level_completable free (suc extra) zero p R some f =
    let makes : Makes free (suc extra) (Exists (Within free (suc extra) 0 R)) some = λ n rest room. let t = f.makes n rest room in (t.0, (room.1, t.1)) in
    record { viable = refuse_viable free (suc extra) (Within free (suc extra) 0 R) (Exists (Within free (suc extra) 0 R)) some makes; makes = makes }
