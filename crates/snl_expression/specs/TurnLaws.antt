-- A list that is read element after element, beside a loop that counts up.
use Rattle.std.proofs.Common.{◌≡◌, ℕ, suc, ◌+◌, ◌-◌, ◌<◌, ◌≤◌, List, [], ◌∷◌, ◌++◌, length, Option, Some, None, Ok, Err, refl, sym, ap, ◌∙◌, arith}
use Rattle.std.specs.Prelude.{option_to_list}
use Rattle.snl_lex.specs.declared.kind.Kind.{Kind}
use Rattle.snl_expression.specs.declared.stop.Stop.{Stop}
use Rattle.snl_expression.specs.declared.stop.Stop.TheVariants as stops
use Rattle.snl_grammar.specs.declared.step.Step.{Step}
use Rattle.snl_grammar.specs.declared.step.Step.TheVariants as steps
use Rattle.snl_grammar.specs.Tokens.{NumberedKind}
use Rattle.snl_grammar.specs.Steps.{Outcome, Reader, and_then, many, many_within, until, until_within}
use Rattle.snl_expression.specs.Reads.{Fails}

module _ {A : Type 0} (next : Reader (Option A)) (total : Outcome (List A)) (n i : ℕ) (found : List A) (k : List NumberedKind) where
  -- the loop is over
  pub turns_over : n ≤ i → many_within next (n - i) found k ≡ total → total ≡ Ok (found, k)
  unfolding many_within and_then
  turns_over le h = let none : n - i ≡ 0 = omega arith in sym h ∙ ap (λ m. many_within next m found k) none

  -- one more turn of the loop, whatever it finds
  turn : i < n → many_within next (n - i) found k ≡ total → many_within next (suc (n - (i + 1))) found k ≡ total
  turn lt h = let some : suc (n - (i + 1)) ≡ n - i = omega arith in ap (λ m. many_within next m found k) some ∙ h

  -- it found an element
  pub turn_more : (x : A) (k' : List NumberedKind) → i < n → many_within next (n - i) found k ≡ total → next k ≡ Ok (Some x, k') → many_within next (n - (i + 1)) (found ++ x ∷ []) k' ≡ total
  unfolding many_within and_then
  turn_more x k' lt h e = let t = turn lt h in sym (rw e refl) ∙ t

  -- it found the end
  pub turn_end : (k' : List NumberedKind) → i < n → many_within next (n - i) found k ≡ total → next k ≡ Ok (None, k') → total ≡ Ok (found, k')
  unfolding many_within and_then
  turn_end k' lt h e = let t = turn lt h in sym t ∙ rw e refl

  -- it failed
  turn_fails : (j : List NumberedKind) → i < n → many_within next (n - i) found k ≡ total → next k ≡ Err j → total ≡ Err j
  unfolding many_within and_then
  turn_fails j lt h e = let t = turn lt h in sym t ∙ rw e refl

  pub turn_err : (kinds : List Kind) (s : Stop) → i < n → many_within next (n - i) found k ≡ total → Fails kinds s (next k) → Fails kinds s total
  turn_err kinds stops.OutOfMemory lt h e = tt
  turn_err kinds (stops.Here at) lt h e = turn_fails _ lt h e

module _ {A B : Type 0} (step : Reader (Step A B)) (total : Outcome (List A × B)) (n i : ℕ) (found : List A) (k : List NumberedKind) where
  pub until_over : n ≤ i → until_within step (n - i) found k ≡ total → total ≡ Err k
  unfolding until_within and_then
  until_over le h = let none : n - i ≡ 0 = omega arith in sym h ∙ ap (λ m. until_within step m found k) none

  again : i < n → until_within step (n - i) found k ≡ total → until_within step (suc (n - (i + 1))) found k ≡ total
  again lt h = let some : suc (n - (i + 1)) ≡ n - i = omega arith in ap (λ m. until_within step m found k) some ∙ h

  pub until_more : (x : A) (k' : List NumberedKind) → i < n → until_within step (n - i) found k ≡ total → step k ≡ Ok (steps.More x, k') → until_within step (n - (i + 1)) (found ++ x ∷ []) k' ≡ total
  unfolding until_within and_then
  until_more x k' lt h e = let t = again lt h in sym (rw e refl) ∙ t

  pub until_last : (o : Option A) (y : B) (k' : List NumberedKind) → i < n → until_within step (n - i) found k ≡ total → step k ≡ Ok (steps.Last o y, k') → total ≡ Ok ((found ++ option_to_list o, y), k')
  unfolding until_within and_then
  until_last o y k' lt h e = let t = again lt h in sym t ∙ rw e refl

  until_fails : (j : List NumberedKind) → i < n → until_within step (n - i) found k ≡ total → step k ≡ Err j → total ≡ Err j
  unfolding until_within and_then
  until_fails j lt h e = let t = again lt h in sym t ∙ rw e refl

  pub until_err : (kinds : List Kind) (s : Stop) → i < n → until_within step (n - i) found k ≡ total → Fails kinds s (step k) → Fails kinds s total
  until_err kinds stops.OutOfMemory lt h e = tt
  until_err kinds (stops.Here at) lt h e = until_fails _ lt h e

pub deeper : {X : Type 0} (f : ℕ → X) (n : ℕ) → 0 < n → f n ≡ f (suc (n - 1))
deeper f n some = let e : n ≡ suc (n - 1) = omega arith in ap f e

-- before the first turn
pub turns_begin : {A : Type 0} (next : Reader (Option A)) (found given : List A) (n : ℕ) (k : List NumberedKind) → found ≡ given → n ≡ suc (length k) → many_within next (n - 0) found k ≡ many next given k
unfolding many
turns_begin next found given n k f e = let m : n - 0 ≡ suc (length k) = omega arith in ap (λ i. many_within next i found k) m ∙ ap (λ l. many_within next (suc (length k)) l k) f

pub until_begin : {A B : Type 0} (step : Reader (Step A B)) (found given : List A) (n : ℕ) (k : List NumberedKind) → found ≡ given → n ≡ suc (length k) → until_within step (n - 0) found k ≡ until step given k
unfolding until
until_begin step found given n k f e = let m : n - 0 ≡ suc (length k) = omega arith in ap (λ i. until_within step i found k) m ∙ ap (λ l. until_within step (suc (length k)) l k) f
