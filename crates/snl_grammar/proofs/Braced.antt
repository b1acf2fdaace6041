-- Lists in braces: elements with commas between, and a comma after the last or not. What was read
-- is in the grammar, and what was read before a blamed token can be completed.
use Rattle.std.proofs.Common.{◌≡◌, ℕ, Bool, true, false, List, [], ◌∷◌, ◌++◌, Option, Some, None, refl, sym, ap, subst, ◌∙◌}
use Rattle.std.specs.Prelude.{option_to_list}
use Rattle.std.proofs.lemmas.List.{append-nil}
use Rattle.snl_lex.specs.declared.kind.Kind.{Kind}
use Rattle.snl_lex.specs.declared.kind.Kind.TheVariants as kind
use Rattle.snl_grammar.specs.declared.step.Step.{Step}
use Rattle.snl_grammar.specs.declared.step.Step.TheVariants as steps
use Rattle.snl_grammar.specs.Tokens.{NumberedKind}
use Rattle.snl_grammar.specs.Steps.{Reader, and_then, pure, kind_at, expect, until}
use Rattle.snl_grammar.specs.Grammar.Base.{First, Leaf, Perhaps}
use Rattle.snl_grammar.specs.Grammar.Types.{Written}
use Rattle.snl_grammar.specs.Grammar.Expressions.{IsAfterComma}
use Rattle.snl_grammar.specs.Grammar.Declarations.{AreBraced}
use Rattle.snl_grammar.proofs.Viable.{Makes, Viable, Completable, Exists, Both, both, Joint, IsNothing, StepOf, Ends, Whole, numbered_kinds, bind_viable, bind_completable, into_completable, lighter, choice_viable, expect_completable, pure_completable, until_viable}

-- ---- what may be there

pub none_perhaps : (free extra : ℕ) {A : Type 0} (R : A → List NumberedKind → List NumberedKind → Type 0) → Viable free extra (pure None) (Perhaps R) (Exists (Perhaps R))
none_perhaps free extra R = (into_completable free extra (pure None) (IsNothing None) (Perhaps R) [] (λ y k rest h. subst (λ z. Perhaps R z k rest) h.0 h.1) (pure_completable free extra None)).viable

some_into : {A : Type 0} (R : A → List NumberedKind → List NumberedKind → Type 0) (y : Option A) (k rest : List NumberedKind) → Both R (λ x. IsNothing (Some x)) y k rest → Perhaps R y k rest
some_into R y k rest (both x m r h) = subst (λ z. Perhaps R z k rest) h.0 (subst (λ l. R x k l) h.1 r)

pub some_perhaps : (free extra : ℕ) {A : Type 0} (R : A → List NumberedKind → List NumberedKind → Type 0) (p : Reader A) (some : List Kind) → Completable free extra p R some → Viable free extra (λ k. and_then (p k) (λ x. pure (Some x))) (Perhaps R) (Exists (Perhaps R))
some_perhaps free extra R p some f =
    (into_completable free extra (λ k. and_then (p k) (λ x. pure (Some x))) (Both R (λ x. IsNothing (Some x))) (Perhaps R) (some ++ []) (some_into R)
    (bind_completable free extra p (λ x. pure (Some x)) R (λ x. IsNothing (Some x)) some [] f (λ x. pure_completable free extra (Some x)))).viable

pub perhaps_completable : (free extra : ℕ) {A : Type 0} (R : A → List NumberedKind → List NumberedKind → Type 0) (by : Option Kind → Reader (Option A)) → ((o : Option Kind) → Viable free extra (by o) (Perhaps R) (Exists (Perhaps R))) → Completable free extra (λ k. by (kind_at k) k) (Perhaps R) []
perhaps_completable free extra R by each = record { viable = choice_viable free extra by (Perhaps R) (Exists (Perhaps R)) each; makes = λ n rest room. (None, refl) }

-- ---- lists in braces

module _ (free extra : ℕ) {A : Type 0} (R : A → List NumberedKind → List NumberedKind → Type 0) (p : Reader A) (some : List Kind) (f : Completable free extra p R some) where
  -- what ends the elements: a comma, or none
  abbrev pub IsLast : Option A → Bool → List NumberedKind → List NumberedKind → Type 0
  IsLast o trailing k rest = (o ≡ None) × Written kind.Comma trailing k rest

  abbrev pub IsValueStep : Step A Bool → List NumberedKind → List NumberedKind → Type 0
  IsValueStep = StepOf (IsAfterComma R) IsLast

  abbrev pub AllValues : List NumberedKind → List NumberedKind → Type 0
  AllValues = Whole (IsAfterComma R) IsLast

  -- what comes after a comma, with the comma before
  abbrev pub After : Step A Bool → List NumberedKind → List NumberedKind → Type 0
  After s k rest = (n : ℕ) → IsValueStep s ((kind.Comma, n) ∷ k) rest

  abbrev pub AfterAim : List NumberedKind → List NumberedKind → Type 0
  AfterAim k rest = (n : ℕ) → AllValues ((kind.Comma, n) ∷ k) rest

  into_close : (y : Step A Bool) (k rest : List NumberedKind) → IsNothing (steps.Last None true) y k rest → After y k rest
  into_close y k rest h n = subst (λ z. IsValueStep z ((kind.Comma, n) ∷ k) rest) h.0 (refl, (n, ap (λ (l : List NumberedKind). (kind.Comma, n) ∷ l) h.1))

  pub close_viable : Viable free extra (pure (steps.Last None true)) After AfterAim
  close_viable = record {
    takes = (into_completable free extra (pure (steps.Last None true)) (IsNothing (steps.Last None true)) After [] into_close (pure_completable free extra (steps.Last None true))).viable.takes;
    stuck = λ k j e. absurd cc;
  }

  into_more : (y : Step A Bool) (k rest : List NumberedKind) → Both R (λ x. IsNothing (steps.More x)) y k rest → After y k rest
  into_more y k rest (both x m r h) n = subst (λ z. IsValueStep z ((kind.Comma, n) ∷ k) rest) h.0 (record { mid = k; comma = (n, refl); element = subst (λ l. R x k l) h.1 r })

  one_more : (x : A) (k rest : List NumberedKind) → R x k rest → AfterAim k rest
  one_more x k rest r n = (x ∷ [], None, false, rest, (rest, record { mid = k; comma = (n, refl); element = r }, refl), (refl, refl))

  aim_more : (y : Step A Bool) (k rest : List NumberedKind) → Both R (λ x. IsNothing (steps.More x)) y k rest → AfterAim k rest
  aim_more y k rest (both x m r h) = one_more x k rest (subst (λ l. R x k l) h.1 r)

  pub more_viable : Viable free extra (λ k. and_then (p k) (λ x. pure (steps.More x))) After AfterAim
  more_viable = lighter free extra (λ k. and_then (p k) (λ x. pure (steps.More x))) (Both R (λ x. IsNothing (steps.More x))) After (Exists (Both R (λ x. IsNothing (steps.More x)))) AfterAim into_more (λ k rest h. aim_more h.0 k rest h.1) (bind_completable free extra p (λ x. pure (steps.More x)) R (λ x. IsNothing (steps.More x)) some [] f (λ x. pure_completable free extra (steps.More x))).viable

  after_makes : Makes free extra AfterAim some
  after_makes n rest room = let t = f.makes n rest room in one_more t.0 (numbered_kinds n some ++ rest) rest t.1

  into_step : (y : Step A Bool) (k rest : List NumberedKind) → Both (Leaf kind.Comma) (λ _. After) y k rest → IsValueStep y k rest
  into_step y k rest (both n m e b) = subst (λ l. IsValueStep y l rest) (sym e) (b n)

  aim_step : (k rest : List NumberedKind) → Joint (Leaf kind.Comma) (λ _. AfterAim) k rest → AllValues k rest
  aim_step k rest h = subst (λ l. AllValues l rest) (sym h.2) (h.3 h.0)

  -- a comma, and a choice after it
  pub comma_step : (by : Option Kind → Reader (Step A Bool)) → ((o : Option Kind) → Viable free extra (by o) After AfterAim) → Viable free extra (λ k. and_then (expect kind.Comma k) (λ _. λ k. by (kind_at k) k)) IsValueStep AllValues
  comma_step by each = lighter free extra (λ k. and_then (expect kind.Comma k) (λ _. λ k. by (kind_at k) k)) (Both (Leaf kind.Comma) (λ _. After)) IsValueStep (Joint (Leaf kind.Comma) (λ _. AfterAim)) AllValues into_step aim_step
      (bind_viable free extra (expect kind.Comma) (λ _. λ k. by (kind_at k) k) (Leaf kind.Comma) (λ _. After) (λ _. AfterAim) some (expect_completable free extra kind.Comma).viable (λ _. choice_viable free extra by After AfterAim each) (λ _. after_makes))

  into_last : (y : Step A Bool) (k rest : List NumberedKind) → IsNothing (steps.Last None false) y k rest → IsValueStep y k rest
  into_last y k rest h = subst (λ z. IsValueStep z k rest) h.0 (refl, h.1)

  pub last_step : Viable free extra (pure (steps.Last None false)) IsValueStep AllValues
  last_step = record {
    takes = (into_completable free extra (pure (steps.Last None false)) (IsNothing (steps.Last None false)) IsValueStep [] into_last (pure_completable free extra (steps.Last None false))).viable.takes;
    stuck = λ k j e. absurd cc;
  }

  no_more : Makes free extra AllValues []
  no_more n rest room = ([], None, false, rest, refl, (refl, refl))

  ends_exist : (found : List A) (k rest : List NumberedKind) → AllValues k rest → Exists (Ends (IsAfterComma R) IsLast found) k rest
  ends_exist found k rest h = ((found ++ (h.0 ++ option_to_list h.1), h.2), (h.0, h.1, h.3, refl, h.4, h.5))

  -- the elements after those that were found
  pub values_completable : (step : Reader (Step A Bool)) → Viable free extra step IsValueStep AllValues → (found : List A) → Completable free extra (until step found) (Ends (IsAfterComma R) IsLast found) []
  values_completable step v found = record {
    viable = lighter free extra (until step found) (Ends (IsAfterComma R) IsLast found) (Ends (IsAfterComma R) IsLast found) AllValues (Exists (Ends (IsAfterComma R) IsLast found)) (λ x k rest h. h) (ends_exist found) (until_viable free extra (IsAfterComma R) IsLast step [] v no_more found);
    makes = λ n rest room. ends_exist found rest rest (no_more n rest room);
  }

  -- a first element, and those after it
  pub braced_values : (x : A) (r : List A × Bool) (k m1 m2 rest : List NumberedKind) → R x k m1 → Ends (IsAfterComma R) IsLast (x ∷ []) r m1 m2 → First kind.CloseBrace m2 rest → AreBraced R r.0 r.1 k rest
  braced_values x r k m1 m2 rest e h c =
      let none : h.0 ++ option_to_list h.1 ≡ h.0 = ap (λ (o : Option A). h.0 ++ option_to_list o) h.5.0 ∙ append-nil h.0 in
      let all : r.0 ≡ x ∷ h.0 = h.3 ∙ ap (λ (l : List A). x ∷ l) none in
      subst (λ z. AreBraced R z r.1 k rest) (sym all) (record { m1 = h.2; m2 = m2; elements = (m1, e, h.4); comma = h.5.1; closing = c })
