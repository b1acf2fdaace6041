-- Conditions, assignments and whole expressions are read again.
use Rattle.std.proofs.Common.{◌≡◌, ◌<◌, ℕ, zero, suc, Bool, true, false, List, [], ◌∷◌, ◌++◌, Some, None, Ok, refl, sym, ap, subst, append_assoc, arith}
use Rattle.snl_lex.specs.declared.kind.Kind.{Kind}
use Rattle.snl_lex.specs.declared.kind.Kind.TheVariants as kind
use Rattle.snl_grammar.specs.declared.operator.Binary.{Binary}
use Rattle.snl_grammar.specs.declared.operator.Assignment.{Assignment}
use Rattle.snl_grammar.specs.declared.operator.Sign.{Sign}
use Rattle.snl_grammar.specs.declared.operator.Sign.TheVariants as signs
use Rattle.snl_grammar.specs.declared.step.Step.TheVariants as steps
use Rattle.snl_grammar.specs.declared.tree.types.TypeName.{TypeName}
use Rattle.snl_grammar.specs.declared.tree.expression.Prefix.{Prefix}
use Rattle.snl_grammar.specs.declared.tree.expression.Expr.{Expr}
use Rattle.snl_grammar.specs.Operators.{sign_kind, assignment_kind}
use Rattle.snl_grammar.specs.Tokens.{NumberedKind, same}
use Rattle.snl_grammar.specs.Steps.{Reader, kind_at, expect, many, until}
use Rattle.snl_grammar.specs.Grammar.Base.{Each, First, Within}
use Rattle.snl_grammar.specs.Grammar.Types.{IsTypeName}
use Rattle.snl_grammar.specs.Grammar.Expressions.{AreTexts, IsPrimary, name, integer, floating, character, texts as is_texts, group as is_group, sizeof_type as is_sizeof_type, IsPostfix, bare as bare_postfix, suffixed as is_suffixed, IsOperator, sign, sizeof as is_size, cast as is_cast, IsPrefix, bare as bare_prefix, prefixed as is_prefixed, IsLink, alone, chain, IsTier, IsArm, IsConditional, alone as lone, choice, IsTarget, IsSingle, value, assignment, IsAssignx, IsExpr}
use Rattle.snl_grammar.specs.Reading.Types.{type_name, begins_type}
use Rattle.snl_grammar.specs.Reading.Expressions.{sequence, prefix, tiers_from, operand, conditional, arm_by, next_arm, conditional_from, assignment_in, target_by, target_step, assigned, single, type_within, assignx, expr}
use Rattle.snl_grammar.proofs.Local.{Local}
use Rattle.snl_grammar.proofs.ExpressionLocal.{arm_eats, target_eats, assignx_local, within_local}
use Rattle.snl_grammar.proofs.TypeLaws.{type_begins, type_name_reads_back, first_type_stops}
use Rattle.snl_grammar.proofs.Again.{ReadsBack, read, late, reads_back_at, reads_back_as, bind_reads_back, pure_reads_back, first_reads_back, kind_first, Heads, first_heads, Lacks, first_lacks, many_reads_back, until_more_reads_back, until_last_reads_back, level_reads_back}
use Rattle.snl_grammar.proofs.Follow.{binds, Stops, stops_less, first_stops, stops_lacks, Quiet, stops_quiet, binary_quiet, assignment_some, binds-assignment}
use Rattle.snl_grammar.proofs.ExpressionAgain.{begins_expr, sequence_again}
use Rattle.snl_grammar.proofs.OperandAgain.{prefix_again}
use Rattle.snl_grammar.proofs.TierAgain.{Goes, split, goes_stop, tiers_again, operand_again}

signs_begin : (op : Sign) → begins_expr (sign_kind op) ≡ true
signs_begin signs.Plus = refl
signs_begin signs.Minus = refl
signs_begin signs.Not = refl
signs_begin signs.Complement = refl
signs_begin signs.Dereference = refl
signs_begin signs.Address = refl
signs_begin signs.Increment = refl
signs_begin signs.Decrement = refl

no_arm_by : (inner : Reader Expr) (names : Reader TypeName) (d : Kind) (k : List NumberedKind) → same d kind.Question ≡ false → arm_by inner names (Some d) k ≡ Ok (None, k)
no_arm_by inner names kind.Question k e = absurd cc
no_arm_by inner names _ k e = refl

no_arm : (free : ℕ) (inner : Reader Expr) (names : Reader TypeName) (k : List NumberedKind) → Lacks kind.Question k → ReadsBack free (next_arm inner names k) None k
unfolding next_arm kind_at
no_arm free inner names [] h = read refl
no_arm free inner names (s ∷ k) h = read (no_arm_by inner names s.0 (s ∷ k) h)

-- ---- what an expression begins with

module _ (Inner : Expr → List NumberedKind → List NumberedKind → Type 0) (Names : TypeName → List NumberedKind → List NumberedKind → Type 0) where
  texts_begin : (ns : List ℕ) (k rest : List NumberedKind) → AreTexts ns k rest → Heads begins_expr k
  texts_begin [] k rest a = absurd a
  texts_begin (n ∷ ns) k rest a = first_heads kind.Text begins_expr k a.0 refl (n, a.1)

  primary_begins : (t : Expr) (k rest : List NumberedKind) → IsPrimary Inner Names t k rest → Heads begins_expr k
  primary_begins t k rest (name n is e) = first_heads kind.Name begins_expr k rest refl (n, e)
  primary_begins t k rest (integer n is e) = first_heads kind.Integer begins_expr k rest refl (n, e)
  primary_begins t k rest (floating n is e) = first_heads kind.Floating begins_expr k rest refl (n, e)
  primary_begins t k rest (character n is e) = first_heads kind.Character begins_expr k rest refl (n, e)
  primary_begins t k rest (is_texts ns is a) = texts_begin ns k rest a
  primary_begins t k rest (is_group x m1 m2 is o r f) = first_heads kind.OpenParen begins_expr k m1 refl o
  primary_begins t k rest (is_sizeof_type x m1 m2 m3 is f o r g) = first_heads kind.Sizeof begins_expr k m1 refl f

  postfix_begins : (t : Expr) (k rest : List NumberedKind) → IsPostfix Inner Names t k rest → Heads begins_expr k
  postfix_begins t k rest (bare_postfix p) = primary_begins t k rest p
  postfix_begins t k rest (is_suffixed x s ss mid is p e) = primary_begins x k mid p

  operator_begins : (b : Bool) (op : Prefix) (k m : List NumberedKind) → IsOperator Names b op k m → Heads begins_expr k
  operator_begins b op k m (sign s is f) = first_heads (sign_kind s) begins_expr k m (signs_begin s) f
  operator_begins b op k m (is_size is f) = first_heads kind.Sizeof begins_expr k m refl f
  operator_begins b op k m (is_cast x m1 m2 c is o r g) = first_heads kind.OpenParen begins_expr k m1 refl o

  prefix_begins : (t : Expr) (k rest : List NumberedKind) → IsPrefix Inner Names t k rest → Heads begins_expr k
  prefix_begins t k rest (bare_prefix p) = postfix_begins t k rest p
  prefix_begins t k rest (is_prefixed op ops x mid is a p) = operator_begins false op k a.0 a.1

  tier_begins : (n : ℕ) (t : Expr) (k rest : List NumberedKind) → IsTier Inner Names n t k rest → Heads begins_expr k
  tier_begins zero t k rest p = prefix_begins t k rest p
  tier_begins (suc n) t k rest (alone l) = tier_begins n t k rest l
  tier_begins (suc n) t k rest (chain x link links mid is l each) = tier_begins n x k mid l

  conditional_begins : (t : Expr) (k rest : List NumberedKind) → IsConditional Inner Names t k rest → Heads begins_expr k
  conditional_begins t k rest (lone l) = tier_begins 10 t k rest l
  conditional_begins t k rest (choice x arm arms mid is l each) = tier_begins 10 x k mid l

  pub single_begins : (t : Expr) (k rest : List NumberedKind) → IsSingle Inner Names t k rest → Heads begins_expr k
  single_begins t k rest (value c) = conditional_begins t k rest c
  single_begins t k rest (assignment target targets x mid is e c) = prefix_begins target.0 k e.1.mid e.1.operand

module _ (free : ℕ) (Inner : Expr → List NumberedKind → List NumberedKind → Type 0) (Names : TypeName → List NumberedKind → List NumberedKind → Type 0) (inner : Reader Expr) (names : Reader TypeName) (local : Local inner) (named : Local names) (again : (x : Expr) (k rest : List NumberedKind) → Inner x k rest → Stops 12 rest → ReadsBack free (inner k) x rest) (begins : (x : Expr) (k rest : List NumberedKind) → Inner x k rest → Heads begins_expr k) (name_again : (x : TypeName) (k mid rest : List NumberedKind) → Names x k mid → First kind.CloseParen mid rest → ReadsBack free (names k) x mid) (name_begins : (x : TypeName) (k rest : List NumberedKind) → Names x k rest → begins_type (kind_at k) ≡ true) where
  operand_first : (t : Expr) (k rest : List NumberedKind) → IsPrefix Inner Names t k rest → Stops 0 rest → ReadsBack free (prefix inner names k) t rest
  operand_first = prefix_again free Inner Names inner names local named again begins name_again name_begins

  abbrev Going : ℕ → Expr → Expr → List NumberedKind → List NumberedKind → Type 0
  Going n x t k rest = Goes free Inner Names inner names local named operand_first n x t k rest

  -- ---- conditions

  abbrev Arm : (Expr × Expr) → List NumberedKind → List NumberedKind → Type 0
  Arm arm k rest = IsArm Inner (IsTier Inner Names 10) arm k rest

  arm_begins : (arm : Expr × Expr) (k m : List NumberedKind) → Arm arm k m → Stops 10 k
  arm_begins arm k m is = first_stops kind.Question 10 k is.m1 (omega arith) is.question

  arm_again : (arm : Expr × Expr) (k m : List NumberedKind) → Arm arm k m → Stops 10 m → ReadsBack free (next_arm inner names k) (Some arm) m
  unfolding next_arm
  arm_again arm k m is h =
      reads_back_at free _ (arm_by inner names (Some kind.Question) k) (Some arm) m (ap (λ o. arm_by inner names o k) (kind_first kind.Question k is.m1 is.question))
      (bind_reads_back free (expect kind.Question k) _ is.question.0 is.m1 (Some arm) m (first_reads_back free kind.Question k is.m1 is.question)
      (bind_reads_back free (sequence inner is.m1) _ arm.0 is.m2 (Some arm) m (sequence_again free Inner inner names local named again begins arm.0 is.m1 is.m2 is.middle (first_stops kind.Colon 13 is.m2 is.m3 (omega arith) is.colon))
      (bind_reads_back free (expect kind.Colon is.m2) _ is.colon.0 is.m3 (Some arm) m (first_reads_back free kind.Colon is.m2 is.m3 is.colon)
      (bind_reads_back free (operand inner names 10 is.m3) _ arm.1 m (Some arm) m (operand_again free Inner Names inner names local named operand_first 10 arm.1 is.m3 m is.operand h) (pure_reads_back free (Some arm) m)))))

  -- t is x with what a condition has after it
  abbrev Chooses : Expr → Expr → List NumberedKind → List NumberedKind → Type 0
  Chooses x t k rest = (y : Expr) × (arms : List (Expr × Expr)) × (mid : List NumberedKind) × Going 10 x y k mid × Each Arm arms mid rest × (conditional y arms ≡ t)

  split_conditional : (t : Expr) (k rest : List NumberedKind) → IsConditional Inner Names t k rest → (x : Expr) × (m : List NumberedKind) × IsPrefix Inner Names x k m × Chooses x t m rest
  split_conditional t k rest (lone l) = let s = split free Inner Names inner names local named operand_first 10 t k rest l in (s.0, s.1, s.2, (t, [], rest, s.3, refl, refl))
  split_conditional t k rest (choice x arm arms mid is l each) = let s = split free Inner Names inner names local named operand_first 10 x k mid l in (s.0, s.1, s.2, (x, arm ∷ arms, mid, s.3, each, sym is))

  arms_stop : (arms : List (Expr × Expr)) (k rest : List NumberedKind) → Each Arm arms k rest → Stops 11 rest → Stops 10 k
  arms_stop [] k rest e h = subst (Stops 10) (sym e) (stops_less 10 11 rest (omega arith) h)
  arms_stop (arm ∷ arms) k rest e h = arm_begins arm k e.0 e.1

  conditional_again : (x t : Expr) (k rest : List NumberedKind) → Chooses x t k rest → Stops 11 rest → ReadsBack free (conditional_from inner names x k) t rest
  unfolding conditional_from
  conditional_again x t k rest g h =
      bind_reads_back free (tiers_from inner names 10 x k) _ g.0 g.2 t rest (tiers_again free Inner Names inner names local named operand_first 10 x g.0 k g.2 g.3 (arms_stop g.1 g.2 rest g.4 h))
      (bind_reads_back free (many (next_arm inner names) [] g.2) _ g.1 rest t rest
      (many_reads_back free (next_arm inner names) (arm_eats inner names local named) Arm (Stops 10) arm_begins arm_again [] g.1 g.2 rest g.4 (stops_less 10 11 rest (omega arith) h) (no_arm free inner names rest (stops_lacks 11 rest kind.Question h (omega arith))))
      (reads_back_as free _ (conditional g.0 g.1) t rest g.5 (pure_reads_back free (conditional g.0 g.1) rest)))

  -- ---- nothing is assigned after a condition's first operand

  links_quiet : (n : ℕ) (links : List (Binary × Expr)) (k rest : List NumberedKind) → Each (IsLink (suc n) (IsTier Inner Names n)) links k rest → Quiet rest → Quiet k
  links_quiet n [] k rest e h = subst Quiet (sym e) h
  links_quiet n (link ∷ links) k rest e h = binary_quiet link.0 k e.1.mid e.1.operator

  goes_quiet : (n : ℕ) (x t : Expr) (k rest : List NumberedKind) → Going n x t k rest → Quiet rest → Quiet k
  goes_quiet zero x t k rest g h = subst Quiet (sym g.1) h
  goes_quiet (suc n) x t k rest g h = goes_quiet n x g.0 k g.2 g.3 (links_quiet n g.1 g.2 rest g.4 h)

  arms_quiet : (arms : List (Expr × Expr)) (k rest : List NumberedKind) → Each Arm arms k rest → Quiet rest → Quiet k
  arms_quiet [] k rest e h = subst Quiet (sym e) h
  arms_quiet (arm ∷ arms) k rest e h = ap assignment_in (kind_first kind.Question k e.1.m1 e.1.question)

  -- ---- assignments

  target_reads_back : (target : Expr × Assignment) (k m : List NumberedKind) → IsTarget Inner Names target k m → ReadsBack free (target_step inner names k) (steps.More target) m
  unfolding target_step
  target_reads_back target k m is =
      let b = binds-assignment target.1 in
      let lt : 0 < binds (assignment_kind target.1) = omega arith in
      bind_reads_back free (prefix inner names k) _ target.0 is.mid (steps.More target) m (operand_first target.0 k is.mid is.operand (first_stops (assignment_kind target.1) 0 is.mid m lt is.operator))
      (reads_back_at free _ (target_by inner names target.0 (Some target.1) is.mid) (steps.More target) m (ap (λ o. target_by inner names target.0 o is.mid) (assignment_some target.1 is.mid m is.operator))
      (bind_reads_back free (expect (assignment_kind target.1) is.mid) _ is.operator.0 m (steps.More target) m (first_reads_back free (assignment_kind target.1) is.mid m is.operator) (pure_reads_back free (steps.More target) m)))

  value_reads_back : (t : Expr) (k rest : List NumberedKind) → IsConditional Inner Names t k rest → Stops 12 rest → ReadsBack free (target_step inner names k) (steps.Last None t) rest
  unfolding target_step
  value_reads_back t k rest is h =
      let s = split_conditional t k rest is in
      let g = s.3 in
      let h11 = stops_less 11 12 rest (omega arith) h in
      let q = goes_quiet 10 s.0 g.0 s.1 g.2 g.3 (arms_quiet g.1 g.2 rest g.4 (stops_quiet rest h)) in
      bind_reads_back free (prefix inner names k) _ s.0 s.1 (steps.Last None t) rest (operand_first s.0 k s.1 s.2 (goes_stop free Inner Names inner names local named operand_first 10 s.0 g.0 s.1 g.2 g.3 (arms_stop g.1 g.2 rest g.4 h11)))
      (reads_back_at free _ (target_by inner names s.0 None s.1) (steps.Last None t) rest (ap (λ o. target_by inner names s.0 o s.1) q)
      (bind_reads_back free (conditional_from inner names s.0 s.1) _ t rest (steps.Last None t) rest (conditional_again s.0 t s.1 rest g h11) (pure_reads_back free (steps.Last None t) rest)))

  targets_again : (found targets : List (Expr × Assignment)) (t : Expr) (k mid rest : List NumberedKind) → Each (IsTarget Inner Names) targets k mid → IsConditional Inner Names t mid rest → Stops 12 rest → ReadsBack free (until (target_step inner names) found k) (found ++ targets, t) rest
  targets_again found [] t k mid rest e c h = until_last_reads_back free (target_step inner names) (target_eats inner names local named) found k None t rest (value_reads_back t k rest (subst (λ l. IsConditional Inner Names t l rest) (sym e) c) h)
  targets_again found (target ∷ targets) t k mid rest e c h =
      reads_back_as free _ ((found ++ target ∷ []) ++ targets, t) (found ++ target ∷ targets, t) rest (ap (λ (l : List (Expr × Assignment)). (l, t)) (append_assoc found (target ∷ []) targets))
      (until_more_reads_back free (target_step inner names) (target_eats inner names local named) found k target e.0 ((found ++ target ∷ []) ++ targets, t) rest (target_reads_back target k e.0 e.1) (targets_again (found ++ target ∷ []) targets t e.0 mid rest e.2 c h))

  pub single_again : (t : Expr) (k rest : List NumberedKind) → IsSingle Inner Names t k rest → Stops 12 rest → ReadsBack free (single inner names k) t rest
  unfolding single
  single_again t k rest (value c) h = bind_reads_back free (until (target_step inner names) [] k) _ ([], t) rest t rest (targets_again [] [] t k k rest refl c h) (pure_reads_back free t rest)
  single_again t k rest (assignment target targets x mid is e c) h =
      bind_reads_back free (until (target_step inner names) [] k) _ (target ∷ targets, x) rest t rest (targets_again [] (target ∷ targets) x k mid rest e c h) (reads_back_as free _ (assigned (target ∷ targets) x) t rest (sym is) (pure_reads_back free (assigned (target ∷ targets) x) rest))

-- ---- in so many levels

name_reads_back : (free extra depth : ℕ) (x : TypeName) (k mid rest : List NumberedKind) → Within free extra depth IsTypeName x k mid → First kind.CloseParen mid rest → ReadsBack free (type_within depth k) x mid
name_reads_back free extra depth x k mid rest is f = level_reads_back free extra depth type_name IsTypeName x k mid (λ r. type_name_reads_back free x k mid r (first_type_stops kind.CloseParen mid rest refl refl f) (first_lacks kind.CloseParen kind.Star mid rest refl f)) is

names_begin : (free extra depth : ℕ) (x : TypeName) (k rest : List NumberedKind) → Within free extra depth IsTypeName x k rest → begins_type (kind_at k) ≡ true
names_begin free extra (suc depth) x k rest is = type_begins x.of k is.mid is.of_type
names_begin free (suc extra) zero x k rest is = type_begins x.of k is.1.mid is.1.of_type
names_begin free zero zero x k rest is = absurd is

pub assignx_begins : (free extra depth : ℕ) (t : Expr) (k rest : List NumberedKind) → IsAssignx free extra depth t k rest → Heads begins_expr k
assignx_begins free extra (suc depth) t k rest is = single_begins (IsAssignx free extra depth) (Within free extra depth IsTypeName) t k rest is
assignx_begins free (suc extra) zero t k rest is = single_begins (IsAssignx free extra zero) (Within free extra zero IsTypeName) t k rest is.1
assignx_begins free zero zero t k rest is = absurd is

pub assignx_again : (free extra depth : ℕ) (t : Expr) (k rest : List NumberedKind) → IsAssignx free extra depth t k rest → Stops 12 rest → ReadsBack free (assignx depth k) t rest
unfolding assignx
assignx_again free extra (suc depth) t k rest is h = single_again free (IsAssignx free extra depth) (Within free extra depth IsTypeName) (assignx depth) (type_within depth) (assignx_local depth) (within_local depth) (assignx_again free extra depth) (assignx_begins free extra depth) (name_reads_back free extra depth) (names_begin free extra depth) t k rest is h
assignx_again free (suc extra) zero t k rest is h = late k refl is.0
assignx_again free zero zero t k rest is h = absurd is

pub expr_again : (free extra depth : ℕ) (t : Expr) (k rest : List NumberedKind) → IsExpr free extra depth t k rest → Stops 13 rest → ReadsBack free (expr depth k) t rest
expr_again free extra depth t k rest is h = sequence_again free (IsAssignx free extra depth) (assignx depth) (type_within depth) (assignx_local depth) (within_local depth) (assignx_again free extra depth) (assignx_begins free extra depth) t k rest is h
