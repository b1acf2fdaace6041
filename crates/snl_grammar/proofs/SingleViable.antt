-- Conditions and assignments can be completed where a reader fails, and what it took is in the
-- grammar.
use Rattle.std.proofs.Common.{◌≡◌, ℕ, suc, List, [], ◌∷◌, ◌++◌, Option, Some, None, refl, sym, subst}
use Rattle.std.specs.Prelude.{option_to_list}
use Rattle.std.proofs.lemmas.List.{append-nil}
use Rattle.snl_lex.specs.declared.kind.Kind.{Kind}
use Rattle.snl_lex.specs.declared.kind.Kind.TheVariants as kind
use Rattle.snl_grammar.specs.declared.operator.Assignment.{Assignment}
use Rattle.snl_grammar.specs.declared.step.Step.{Step}
use Rattle.snl_grammar.specs.declared.step.Step.TheVariants as steps
use Rattle.snl_grammar.specs.declared.tree.types.TypeName.{TypeName}
use Rattle.snl_grammar.specs.declared.tree.expression.Expr.{Expr}
use Rattle.snl_grammar.specs.Operators.{assignment_kind}
use Rattle.snl_grammar.specs.Tokens.{NumberedKind}
use Rattle.snl_grammar.specs.Steps.{Reader, pure, expect, many, until}
use Rattle.snl_grammar.specs.Grammar.Base.{Each, Leaf}
use Rattle.snl_grammar.specs.Grammar.Expressions.{IsSequence, IsPrefix, IsTier, IsArm, IsConditional, alone as lone, choice, IsTarget, IsSingle, value, assignment}
use Rattle.snl_grammar.specs.Reading.Expressions.{conditional, assigned, assignment_in, sequence, prefix, tiers_from, operand, arm_by, next_arm, conditional_from, target_by, target_step, single}
use Rattle.snl_grammar.proofs.Viable.{pure_never, Makes, Viable, Completable, Exists, Both, both, Joint, Next, Lists, IsNothing, StepOf, Ends, Whole, numbered_kinds, bind_viable, bind_completable, into_completable, lighter, choice_viable, expect_completable, pure_completable, many_completable, until_viable, free_after}
use Rattle.snl_grammar.proofs.TypeLaws.{lists_each, none_next, first_then}
use Rattle.snl_grammar.proofs.CommasViable.{Int}
use Rattle.snl_grammar.proofs.SuffixViable.{sequence_completable}
use Rattle.snl_grammar.proofs.OperandViable.{prefix_completable}
use Rattle.snl_grammar.proofs.TierViable.{Continues, tiers_completable, operand_completable}

module _ (free extra : ℕ) (Inner : Expr → List NumberedKind → List NumberedKind → Type 0) (Names : TypeName → List NumberedKind → List NumberedKind → Type 0) (inner : Reader Expr) (names : Reader TypeName) (fi : Completable free extra inner Inner Int) (fn : Completable free extra names Names (kind.Int ∷ [])) where
  -- ---- conditions

  abbrev Arm : (Expr × Expr) → List NumberedKind → List NumberedKind → Type 0
  Arm arm k rest = IsArm Inner (IsTier Inner Names 10) arm k rest

  abbrev some_arm : Expr → Expr → Option (Expr × Expr)
  some_arm x y = Some (x, y)

  into_arm : (y : Option (Expr × Expr)) (k rest : List NumberedKind) → Both (Leaf kind.Question) (λ _. Both (IsSequence Inner) (λ a. Both (Leaf kind.Colon) (λ _. Both (IsTier Inner Names 10) (λ b. IsNothing (some_arm a b))))) y k rest → Next Arm y k rest
  into_arm y k rest (both n m1 e1 (both a m2 e2 (both i m3 e3 (both b m4 e4 h)))) =
      subst (λ z. Next Arm z k rest) h.0 (record { m1 = m1; m2 = m2; m3 = m3; question = (n, e1); middle = e2; colon = (i, e3); operand = subst (λ l. IsTier Inner Names 10 b m3 l) h.1 e4 })

  arm_by_viable : (o : Option Kind) → Viable free extra (arm_by inner names o) (Next Arm) (Exists (Next Arm))
  arm_by_viable (Some kind.Question) = (into_completable free extra (arm_by inner names (Some kind.Question)) _ (Next Arm) (kind.Question ∷ kind.Integer ∷ kind.Colon ∷ kind.Integer ∷ []) into_arm
      (bind_completable free extra (expect kind.Question) _ (Leaf kind.Question) (λ _. Both (IsSequence Inner) (λ a. Both (Leaf kind.Colon) (λ _. Both (IsTier Inner Names 10) (λ b. IsNothing (some_arm a b))))) (kind.Question ∷ []) (kind.Integer ∷ kind.Colon ∷ kind.Integer ∷ []) (expect_completable free extra kind.Question) (λ _.
      bind_completable free extra (sequence inner) _ (IsSequence Inner) (λ a. Both (Leaf kind.Colon) (λ _. Both (IsTier Inner Names 10) (λ b. IsNothing (some_arm a b)))) Int (kind.Colon ∷ kind.Integer ∷ []) (sequence_completable free extra Inner inner fi) (λ a.
      bind_completable free extra (expect kind.Colon) _ (Leaf kind.Colon) (λ _. Both (IsTier Inner Names 10) (λ b. IsNothing (some_arm a b))) (kind.Colon ∷ []) Int (expect_completable free extra kind.Colon) (λ _.
      bind_completable free extra (operand inner names 10) _ (IsTier Inner Names 10) (λ b. IsNothing (some_arm a b)) Int [] (operand_completable free extra Inner Names inner names fi fn 10) (λ b. pure_completable free extra (some_arm a b))))))).viable
  arm_by_viable _ = (into_completable free extra (pure None) (IsNothing None) (Next Arm) [] (none_next Arm) (pure_completable free extra None)).viable

  next_arm_viable : Viable free extra (next_arm inner names) (Next Arm) (Exists (Next Arm))
  unfolding next_arm
  next_arm_viable = choice_viable free extra (arm_by inner names) (Next Arm) (Exists (Next Arm)) arm_by_viable

  arms_completable : Completable free extra (many (next_arm inner names) []) (Each Arm) []
  arms_completable = into_completable free extra (many (next_arm inner names) []) (Lists Arm []) (Each Arm) [] (lists_each Arm) (many_completable free extra Arm (next_arm inner names) next_arm_viable [])

  abbrev Conditional : Expr → Expr → List NumberedKind → List NumberedKind → Type 0
  Conditional x t k rest = (m : List NumberedKind) → IsPrefix Inner Names x m k → IsConditional Inner Names t m rest

  make_conditional : (x : Expr) (arms : List (Expr × Expr)) (k m rest : List NumberedKind) → IsTier Inner Names 10 x k m → Each Arm arms m rest → IsConditional Inner Names (conditional x arms) k rest
  make_conditional x [] k m rest r e = lone (subst (λ l. IsTier Inner Names 10 x k l) e r)
  make_conditional x (arm ∷ arms) k m rest r e = choice x arm arms m refl r e

  into_conditional : (x y : Expr) (k rest : List NumberedKind) → Both (Continues Inner Names 10 x) (λ first. Both (Each Arm) (λ arms. IsNothing (conditional first arms))) y k rest → Conditional x y k rest
  into_conditional x y k rest (both first m c (both arms m2 e h)) front p = subst (λ z. IsConditional Inner Names z front rest) h.0 (make_conditional first arms front m rest (c front p) (subst (λ l. Each Arm arms m l) h.1 e))

  conditional_completable : (x : Expr) → Completable free extra (conditional_from inner names x) (Conditional x) []
  unfolding conditional_from
  conditional_completable x = into_completable free extra (conditional_from inner names x) _ (Conditional x) [] (into_conditional x)
      (bind_completable free extra (tiers_from inner names 10 x) _ (Continues Inner Names 10 x) (λ first. Both (Each Arm) (λ arms. IsNothing (conditional first arms))) [] [] (tiers_completable free extra Inner Names inner names fi fn 10 x) (λ first.
      bind_completable free extra (many (next_arm inner names) []) _ (Each Arm) (λ arms. IsNothing (conditional first arms)) [] [] arms_completable (λ arms. pure_completable free extra (conditional first arms))))

  -- ---- assignments

  abbrev Target : (Expr × Assignment) → List NumberedKind → List NumberedKind → Type 0
  Target target k rest = IsTarget Inner Names target k rest

  abbrev Value : Option (Expr × Assignment) → Expr → List NumberedKind → List NumberedKind → Type 0
  Value o y k rest = (o ≡ None) × IsConditional Inner Names y k rest

  -- what comes after a prefix expression
  abbrev After : Expr → Step (Expr × Assignment) Expr → List NumberedKind → List NumberedKind → Type 0
  After x s k rest = (m : List NumberedKind) → IsPrefix Inner Names x m k → StepOf Target Value s m rest

  abbrev AfterWhole : Expr → List NumberedKind → List NumberedKind → Type 0
  AfterWhole x k rest = (m : List NumberedKind) → IsPrefix Inner Names x m k → Whole Target Value m rest

  abbrev a_target : Expr → Assignment → Step (Expr × Assignment) Expr
  a_target x op = steps.More (x, op)

  abbrev a_value : Expr → Step (Expr × Assignment) Expr
  a_value y = steps.Last None y

  value_whole : (x y : Expr) (k rest : List NumberedKind) → Conditional x y k rest → AfterWhole x k rest
  value_whole x y k rest c m p = ([], None, y, m, refl, (refl, c m p))

  after_whole_makes : (x : Expr) → Makes free extra (AfterWhole x) []
  after_whole_makes x n rest room = let t = (conditional_completable x).makes n rest room in value_whole x t.0 rest rest t.1

  into_target : (x : Expr) (op : Assignment) (s : Step (Expr × Assignment) Expr) (k rest : List NumberedKind) → Both (Leaf (assignment_kind op)) (λ _. IsNothing (a_target x op)) s k rest → After x s k rest
  into_target x op s k rest (both n m e h) front p = subst (λ z. StepOf Target Value z front rest) h.0 (record { mid = k; operand = p; operator = first_then (assignment_kind op) n k m rest e h.1 })

  -- the shortest value
  whole_makes : Makes free extra (Whole Target Value) Int
  whole_makes n rest room = let p = (prefix_completable free extra Inner Names inner names fi fn).makes n rest room in after_whole_makes p.0 (suc n) rest (free_after free extra ((kind.Integer, n) ∷ []) rest room) (numbered_kinds n Int ++ rest) p.1

  target_aim : (x : Expr) (op : Assignment) (k rest : List NumberedKind) → Joint (Leaf (assignment_kind op)) (λ _. Whole Target Value) k rest → AfterWhole x k rest
  target_aim x op k rest h front p = let w = h.3 in ((x, op) ∷ w.0, w.1, w.2, w.3, (h.1, record { mid = k; operand = p; operator = (h.0, h.2) }, w.4), w.5)

  target_viable : (x : Expr) (op : Assignment) → Viable free extra (target_by inner names x (Some op)) (After x) (AfterWhole x)
  target_viable x op = lighter free extra (target_by inner names x (Some op)) _ (After x) _ (AfterWhole x) (into_target x op) (target_aim x op) (bind_viable free extra (expect (assignment_kind op)) (λ _. pure (a_target x op)) (Leaf (assignment_kind op)) (λ _. IsNothing (a_target x op)) (λ _. Whole Target Value) Int (expect_completable free extra (assignment_kind op)).viable (λ _. pure_never free extra (a_target x op) (Whole Target Value)) (λ _. whole_makes))

  into_value : (x : Expr) (s : Step (Expr × Assignment) Expr) (k rest : List NumberedKind) → Both (Conditional x) (λ y. IsNothing (a_value y)) s k rest → After x s k rest
  into_value x s k rest (both y m c h) front p = subst (λ z. StepOf Target Value z front rest) h.0 (refl, subst (λ l. IsConditional Inner Names y front l) h.1 (c front p))

  value_aim : (x : Expr) (s : Step (Expr × Assignment) Expr) (k rest : List NumberedKind) → Both (Conditional x) (λ y. IsNothing (a_value y)) s k rest → AfterWhole x k rest
  value_aim x s k rest (both y m c h) = value_whole x y k rest (λ front p. subst (λ l. IsConditional Inner Names y front l) h.1 (c front p))

  value_viable : (x : Expr) → Viable free extra (target_by inner names x None) (After x) (AfterWhole x)
  value_viable x = lighter free extra (target_by inner names x None) _ (After x) _ (AfterWhole x) (into_value x) (λ k rest h. value_aim x h.0 k rest h.1) (bind_completable free extra (conditional_from inner names x) _ (Conditional x) (λ y. IsNothing (a_value y)) [] [] (conditional_completable x) (λ y. pure_completable free extra (a_value y))).viable

  target_by_viable : (x : Expr) (o : Option Assignment) → Viable free extra (target_by inner names x o) (After x) (AfterWhole x)
  target_by_viable x None = value_viable x
  target_by_viable x (Some op) = target_viable x op

  into_target_step : (s : Step (Expr × Assignment) Expr) (k rest : List NumberedKind) → Both (IsPrefix Inner Names) After s k rest → StepOf Target Value s k rest
  into_target_step s k rest (both x m p c) = c k p

  target_step_viable : Viable free extra (target_step inner names) (StepOf Target Value) (Whole Target Value)
  unfolding target_step
  target_step_viable = lighter free extra (target_step inner names) (Both (IsPrefix Inner Names) After) (StepOf Target Value) (Joint (IsPrefix Inner Names) AfterWhole) (Whole Target Value) into_target_step (λ k rest h. h.3 k h.2) (bind_viable free extra (prefix inner names) _ (IsPrefix Inner Names) After AfterWhole [] (prefix_completable free extra Inner Names inner names fi fn).viable (λ x. choice_viable free extra (λ o. target_by inner names x (assignment_in o)) (After x) (AfterWhole x) (λ o. target_by_viable x (assignment_in o))) after_whole_makes)

  make_single : (targets : List (Expr × Assignment)) (x : Expr) (k mid rest : List NumberedKind) → Each Target targets k mid → IsConditional Inner Names x mid rest → IsSingle Inner Names (assigned targets x) k rest
  make_single [] x k mid rest e c = value (subst (λ l. IsConditional Inner Names x l rest) (sym e) c)
  make_single (target ∷ targets) x k mid rest e c = assignment target targets x mid refl e c

  abbrev Targets : List (Expr × Assignment) × Expr → List NumberedKind → List NumberedKind → Type 0
  Targets r k rest = IsSingle Inner Names (assigned r.0 r.1) k rest

  with_value : (xs : List (Expr × Assignment)) (o : Option (Expr × Assignment)) (y : Expr) (k mid rest : List NumberedKind) → Each Target xs k mid → Value o y mid rest → Targets (xs ++ option_to_list o, y) k rest
  with_value xs o y k mid rest e h = subst (λ p. Targets (xs ++ option_to_list p, y) k rest) (sym h.0) (subst (λ l. Targets (l, y) k rest) (sym (append-nil xs)) (make_single xs y k mid rest e h.1))

  into_targets : (r : List (Expr × Assignment) × Expr) (k rest : List NumberedKind) → Ends Target Value [] r k rest → Targets r k rest
  into_targets r k rest h = subst (λ l. Targets (l, r.1) k rest) (sym h.3) (with_value h.0 h.1 r.1 k h.2 rest h.4 h.5)

  aim_targets : (k rest : List NumberedKind) → Whole Target Value k rest → Exists Targets k rest
  aim_targets k rest h = ((h.0 ++ option_to_list h.1, h.2), with_value h.0 h.1 h.2 k h.3 rest h.4 h.5)

  targets_completable : Completable free extra (until (target_step inner names) []) Targets Int
  targets_completable = record {
    viable = lighter free extra (until (target_step inner names) []) (Ends Target Value []) Targets (Whole Target Value) (Exists Targets) into_targets aim_targets (until_viable free extra Target Value (target_step inner names) Int target_step_viable whole_makes []);
    makes = λ n rest room. aim_targets (numbered_kinds n Int ++ rest) rest (whole_makes n rest room);
  }

  into_single : (y : Expr) (k rest : List NumberedKind) → Both Targets (λ r. IsNothing (assigned r.0 r.1)) y k rest → IsSingle Inner Names y k rest
  into_single y k rest (both r m e h) = subst (λ z. IsSingle Inner Names z k rest) h.0 (subst (λ l. IsSingle Inner Names (assigned r.0 r.1) k l) h.1 e)

  pub single_completable : Completable free extra (single inner names) (IsSingle Inner Names) Int
  unfolding single
  single_completable = into_completable free extra (single inner names) _ (IsSingle Inner Names) Int into_single (bind_completable free extra (until (target_step inner names) []) _ Targets (λ r. IsNothing (assigned r.0 r.1)) Int [] targets_completable (λ r. pure_completable free extra (assigned r.0 r.1)))
