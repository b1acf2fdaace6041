-- What is in the grammar is read again; or a token is blamed that is free of the levels, so that it
-- lies too deep.
use Rattle.std.proofs.Common.{◌≡◌, ℕ, zero, suc, Bool, true, false, List, [], ◌∷◌, ◌++◌, Option, Some, None, Ok, Err, refl, sym, ap, subst, ◌∙◌, append_assoc}
use Rattle.std.specs.Prelude.{option_to_list}
use Rattle.std.proofs.lemmas.Bool.{false_from_ne_true}
use Rattle.std.proofs.lemmas.List.{append-nil}
use Rattle.snl_lex.specs.declared.kind.Kind.{Kind}
use Rattle.snl_grammar.specs.declared.step.Step.{Step}
use Rattle.snl_grammar.specs.declared.step.Step.TheVariants as steps
use Rattle.snl_grammar.specs.Tokens.{NumberedKind, same}
use Rattle.snl_grammar.specs.Steps.{Outcome, Reader, and_then, pure, kind_at, expect, accept, more_or, many, again_or, until, within}
use Rattle.snl_grammar.specs.Grammar.Base.{AreFree, Each, First, Leaf, Within}
use Rattle.snl_grammar.specs.Grammar.Types.{Written}
use Rattle.snl_grammar.proofs.Same.{same_true, same_refl}
use Rattle.snl_grammar.proofs.Local.{EatsSome, EatsMore, many_step, until_step, bind_is, bind_no}

pub data ReadsBack (free : ℕ) {A : Type 0} (o : Outcome A) (x : A) (rest : List NumberedKind) : Type 0 where
  read : o ≡ Ok (x, rest) → ReadsBack free o x rest
  late : (j : List NumberedKind) → o ≡ Err j → AreFree free j → ReadsBack free o x rest

-- the same outcome, and the same value
pub reads_back_at : {A : Type 0} (free : ℕ) (o o' : Outcome A) (x : A) (rest : List NumberedKind) → o ≡ o' → ReadsBack free o' x rest → ReadsBack free o x rest
reads_back_at free o o' x rest e (read h) = read (e ∙ h)
reads_back_at free o o' x rest e (late j h lt) = late j (e ∙ h) lt

pub reads_back_as : {A : Type 0} (free : ℕ) (o : Outcome A) (x y : A) (rest : List NumberedKind) → x ≡ y → ReadsBack free o x rest → ReadsBack free o y rest
reads_back_as free o x y rest e c = subst (λ z. ReadsBack free o z rest) e c

-- the same place
pub reads_back_from : {A : Type 0} (free : ℕ) (p : Reader A) (k k' : List NumberedKind) (x : A) (rest : List NumberedKind) → k ≡ k' → ReadsBack free (p k') x rest → ReadsBack free (p k) x rest
reads_back_from free p k k' x rest e c = reads_back_at free (p k) (p k') x rest (ap p e) c

-- one step after another
pub bind_reads_back : {A B : Type 0} (free : ℕ) (o : Outcome A) (f : A → Reader B) (x : A) (m : List NumberedKind) (y : B) (rest : List NumberedKind) → ReadsBack free o x m → ReadsBack free (f x m) y rest → ReadsBack free (and_then o f) y rest
bind_reads_back free o f x m y rest (read e) (read h) = read (bind_is o f x m _ e h)
bind_reads_back free o f x m y rest (read e) (late j h lt) = late j (bind_is o f x m _ e h) lt
bind_reads_back free o f x m y rest (late j e lt) c = late j (bind_no o f j e) lt

pub pure_reads_back : {A : Type 0} (free : ℕ) (x : A) (k : List NumberedKind) → ReadsBack free (pure x k) x k
pure_reads_back free x k = read refl

-- ---- tokens

pub expect_reads_back : (free : ℕ) (x : Kind) (n : ℕ) (k rest : List NumberedKind) → Leaf x n k rest → ReadsBack free (expect x k) n rest
unfolding expect
expect_reads_back free x n k rest e = read (rw (e, same_refl x) refl)

pub first_reads_back : (free : ℕ) (x : Kind) (k rest : List NumberedKind) (f : First x k rest) → ReadsBack free (expect x k) f.0 rest
first_reads_back free x k rest f = expect_reads_back free x f.0 k rest f.1

-- the next token is of this kind
pub kind_first : (x : Kind) (k rest : List NumberedKind) → First x k rest → kind_at k ≡ Some x
unfolding kind_at
kind_first x k rest f = ap kind_at f.1

-- the first token is one of these
abbrev pub Heads : (Kind → Bool) → List NumberedKind → Type 0
Heads p [] = ⊥
Heads p (s ∷ k) = p s.0 ≡ true

pub first_heads : (x : Kind) (p : Kind → Bool) (k rest : List NumberedKind) → p x ≡ true → First x k rest → Heads p k
first_heads x p k rest h f = subst (Heads p) (sym f.1) h

-- the next token isn't of this kind
abbrev pub Lacks : Kind → List NumberedKind → Type 0
Lacks x [] = Unit {0}
Lacks x (s ∷ k) = same s.0 x ≡ false

pub differ : (p : Kind → Bool) (a b : Kind) → p a ≡ true → p b ≡ false → same a b ≡ false
differ p a b t f = false_from_ne_true (same a b) (λ e. let h : p a ≡ p b = ap p (same_true a b e) in absurd cc)

pub first_lacks : (x y : Kind) (k rest : List NumberedKind) → same x y ≡ false → First x k rest → Lacks y k
first_lacks x y k rest h f = subst (Lacks y) (sym f.1) h

pub written_reads_back : (free : ℕ) (x : Kind) (b : Bool) (k rest : List NumberedKind) → Written x b k rest → Lacks x rest → ReadsBack free (accept x k) b rest
unfolding accept
written_reads_back free x true k rest f h = read (rw (f.1, same_refl x) refl)
written_reads_back free x false [] rest f h = read (ap (λ (l : List NumberedKind). Ok (false, l)) f)
written_reads_back free x false (s ∷ k) rest f h = let no : same s.0 x ≡ false = subst (Lacks x) (sym f) h in read (rw no (ap (λ (l : List NumberedKind). Ok (false, l)) f))

-- ---- lists

module _ (free : ℕ) {A : Type 0} (next : Reader (Option A)) (eats : EatsSome next) (E : A → List NumberedKind → List NumberedKind → Type 0) (Follows : List NumberedKind → Type 0) (begins : (x : A) (k m : List NumberedKind) → E x k m → Follows k) (again : (x : A) (k m : List NumberedKind) → E x k m → Follows m → ReadsBack free (next k) (Some x) m) where
  -- what may follow an element may follow the one before it
  pub each_follows : (xs : List A) (k rest : List NumberedKind) → Each E xs k rest → Follows rest → Follows k
  each_follows [] k rest each f = subst Follows (sym each) f
  each_follows (x ∷ xs) k rest each f = begins x k each.0 each.1

  pub many_reads_back : (found xs : List A) (k rest : List NumberedKind) → Each E xs k rest → Follows rest → ReadsBack free (next rest) None rest → ReadsBack free (many next found k) (found ++ xs) rest
  many_reads_back found [] k rest each f end =
      reads_back_at free (many next found k) _ (found ++ []) rest (many_step next eats found k)
      (bind_reads_back free (next k) (more_or found (many next)) None rest (found ++ []) rest (reads_back_from free next k rest None rest each end) (reads_back_as free _ found (found ++ []) rest (sym (append-nil found)) (pure_reads_back free found rest)))
  many_reads_back found (x ∷ xs) k rest each f end =
      let h = many_reads_back (found ++ x ∷ []) xs each.0 rest each.2 f end in
      reads_back_at free (many next found k) _ (found ++ x ∷ xs) rest (many_step next eats found k)
      (bind_reads_back free (next k) (more_or found (many next)) (Some x) each.0 (found ++ x ∷ xs) rest (again x k each.0 each.1 (each_follows xs each.0 rest each.2 f)) (reads_back_as free _ ((found ++ x ∷ []) ++ xs) (found ++ x ∷ xs) rest (append_assoc found (x ∷ []) xs) h))

module _ (free : ℕ) {A B : Type 0} (step : Reader (Step A B)) (eats : EatsMore step) (found : List A) (k : List NumberedKind) where
  pub until_more_reads_back : (x : A) (m : List NumberedKind) (r : List A × B) (rest : List NumberedKind) → ReadsBack free (step k) (steps.More x) m → ReadsBack free (until step (found ++ x ∷ []) m) r rest → ReadsBack free (until step found k) r rest
  until_more_reads_back x m r rest c h = reads_back_at free (until step found k) _ r rest (until_step step eats found k) (bind_reads_back free (step k) (again_or found (until step)) (steps.More x) m r rest c h)

  pub until_last_reads_back : (o : Option A) (y : B) (rest : List NumberedKind) → ReadsBack free (step k) (steps.Last o y) rest → ReadsBack free (until step found k) (found ++ option_to_list o, y) rest
  until_last_reads_back o y rest c = reads_back_at free (until step found k) _ (found ++ option_to_list o, y) rest (until_step step eats found k) (bind_reads_back free (step k) (again_or found (until step)) (steps.Last o y) rest (found ++ option_to_list o, y) rest c (pure_reads_back free (found ++ option_to_list o, y) rest))

-- ---- what is one level deeper

pub level_reads_back : (free extra depth : ℕ) {A : Type 0} (p : Reader A) (R : A → List NumberedKind → List NumberedKind → Type 0) (x : A) (k rest : List NumberedKind) → (R x k rest → ReadsBack free (p k) x rest) → Within free extra depth R x k rest → ReadsBack free (within depth p k) x rest
unfolding within
level_reads_back free extra (suc depth) p R x k rest again h = again h
level_reads_back free (suc extra) zero p R x k rest again h = late k refl h.0
level_reads_back free zero zero p R x k rest again h = absurd h
