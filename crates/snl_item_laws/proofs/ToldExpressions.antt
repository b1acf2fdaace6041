-- The names in expressions and initialisers are those of what these spell.
use Rattle.std.proofs.Common.{◌≡◌, ℕ, Bool, List, [], ◌∷◌, map, Option, None, Some, refl, sym, subst}
use Rattle.std.specs.List.{flat_map}
use Rattle.snl_lex.specs.declared.kind.Kind.TheVariants as kind
use Rattle.snl_grammar.specs.declared.operator.Assignment.{Assignment}
use Rattle.snl_grammar.specs.declared.operator.Binary.{Binary}
use Rattle.snl_grammar.specs.declared.tree.declaration.Init.{Init}
use Rattle.snl_grammar.specs.declared.tree.declaration.Init.TheOpen.{Init-F}
use Rattle.snl_grammar.specs.declared.tree.declaration.Init.TheFolds.{fold-roll-Init, ind-Init, map-Init}
use Rattle.snl_grammar.specs.declared.tree.declaration.Init.TheViews.{roll-Init}
use Rattle.snl_grammar.specs.declared.tree.expression.Expr.{Expr}
use Rattle.snl_grammar.specs.declared.tree.expression.Expr.TheOpen.{Expr-F, Suffix-F}
use Rattle.snl_grammar.specs.declared.tree.expression.Expr.TheFolds.{fold-roll-Expr, fold-roll-Suffix, ind-Expr, map-Expr, map-Suffix}
use Rattle.snl_grammar.specs.declared.tree.expression.Expr.TheViews.{roll-Expr, roll-Suffix}
use Rattle.snl_grammar.specs.declared.tree.expression.Suffix.{Suffix}
use Rattle.snl_grammar.specs.Operators.{assignment_kind, binary_kind}
use Rattle.snl_grammar.specs.Spelling.Base.{Spelled, after, commas, joined, perhaps}
use Rattle.snl_grammar.specs.Spelling.Declarations.{spell_init, spell_init_step, spell_length, spell_value}
use Rattle.snl_grammar.specs.Spelling.Expressions.{spell_arm, spell_expr, spell_expr_step, spell_link, spell_suffix, spell_suffix_step, spell_target}
use Rattle.snl_walk.specs.declared.occurrence.Follows.TheVariants as follows
use Rattle.snl_walk.specs.declared.occurrence.Occurrence.{Occurrence}
use Rattle.snl_walk.specs.declared.occurrence.What.{What}
use Rattle.snl_walk.specs.declared.occurrence.What.TheVariants as what
use Rattle.snl_walk.specs.Expressions.{Operand, Tail, before, expr_step, init_step, names_if, names_in_all, names_in_arguments, names_in_arms, names_in_init, names_in_links, names_in_tails, names_in_targets, names_in_value, names_in_values, operand, plain, suffix_step, tail_of}
use Rattle.snl_walk.specs.Scopes.{Names, seen}
use Rattle.snl_item_laws.proofs.Inner.{ExpressionName, Setting}
use Rattle.snl_item_laws.proofs.Told.{AreTold, Case, Sort, a_change, a_jump, a_name, a_target, hidden, jump_here, lead_here, name_here, none, passed, quiet, stay_here, target_here, told-append, told_after, told_before, told_in_braces, told_in_brackets, told_in_parens, told_joined, told_then}
use Rattle.snl_item_laws.proofs.ToldTypes.{assignment_quiet, binary_quiet, silent_leaf, silent_prefixes, silent_texts, silent_type_name, silent_word, silent_written}

abbrev name_at : ExpressionName → ℕ
name_at n = n.token

abbrev sort_of_name : ExpressionName → Sort
sort_of_name n = a_name

module _ (has : Case → Type 0) where
  abbrev NamesTold : List ExpressionName → List Spelled → Type 0
  NamesTold = AreTold name_at sort_of_name has

  -- in whatever setting it is
  abbrev OperandTold : Operand → List Spelled → Type 0
  OperandTold o xs = (s : Setting) → NamesTold (o.names s) xs

  abbrev TailTold : Tail → List Spelled → Type 0
  TailTold t xs = (name : Option ℕ) → NamesTold (t.names name) xs

  abbrev ToldOfExpr : Expr → Type 0
  ToldOfExpr e = OperandTold (operand e) (spell_expr e)

  abbrev ToldOfSuffix : Suffix → Type 0
  ToldOfSuffix p = TailTold (tail_of p) (spell_suffix p)

  -- expressions and suffixes of which it is known
  abbrev KnownExpr : Type 0
  KnownExpr = (e : Expr) × ToldOfExpr e

  abbrev KnownSuffix : Type 0
  KnownSuffix = (p : Suffix) × ToldOfSuffix p

  abbrev expr_of : KnownExpr → Expr
  expr_of k = k.0

  abbrev suffix_of : KnownSuffix → Suffix
  suffix_of k = k.0

  tails_told : (name : Option ℕ) (ps : List KnownSuffix) → NamesTold (names_in_tails name (map tail_of (map suffix_of ps))) (joined (map spell_suffix (map suffix_of ps)))
  tails_told name [] = none
  tails_told name (p ∷ ps) = told-append (p.1 name) (tails_told None ps)

  all_told : (xs : List KnownExpr) → NamesTold (names_in_all (map operand (map expr_of xs))) (after kind.Comma (map spell_expr (map expr_of xs)))
  all_told [] = none
  all_told (x ∷ xs) = quiet kind.Comma None refl (told-append (x.1 plain) (all_told xs))

  more_arguments : (call : Option ℕ) (xs : List KnownExpr) → NamesTold (names_in_arguments call (map operand (map expr_of xs))) (after kind.Comma (map spell_expr (map expr_of xs)))
  more_arguments call [] = none
  more_arguments call (x ∷ xs) = quiet kind.Comma None refl (told-append (x.1 (record { follows = follows.Nothing; argument_of = call })) (more_arguments None xs))

  arguments_told : (call : Option ℕ) (xs : List KnownExpr) → NamesTold (names_in_arguments call (map operand (map expr_of xs))) (commas (map spell_expr (map expr_of xs)))
  arguments_told call [] = none
  arguments_told call (x ∷ xs) = told-append (x.1 (record { follows = follows.Nothing; argument_of = call })) (more_arguments None xs)

  links_told : (links : List (Binary × KnownExpr)) →
      NamesTold (names_in_links (map (λ (link : Binary × Expr). (link.0, operand link.1)) (map (λ (link : Binary × KnownExpr). (link.0, link.1.0)) links)))
      (joined (map spell_link (map (λ (link : Binary × Expr). (link.0, spell_expr link.1)) (map (λ (link : Binary × KnownExpr). (link.0, link.1.0)) links))))
  links_told [] = none
  links_told (link ∷ links) = told-append (quiet (binary_kind link.0) None (binary_quiet link.0) (link.1.1 plain)) (links_told links)

  arms_told : (arms : List (KnownExpr × KnownExpr)) →
      NamesTold (names_in_arms (map (λ (arm : Expr × Expr). (operand arm.0, operand arm.1)) (map (λ (arm : KnownExpr × KnownExpr). (arm.0.0, arm.1.0)) arms)))
      (joined (map spell_arm (map (λ (arm : Expr × Expr). (spell_expr arm.0, spell_expr arm.1)) (map (λ (arm : KnownExpr × KnownExpr). (arm.0.0, arm.1.0)) arms))))
  arms_told [] = none
  arms_told (arm ∷ arms) = told-append (told-append (quiet kind.Question None refl (told_before kind.Colon refl (arm.0.1 plain))) (arm.1.1 plain)) (arms_told arms)

  targets_told : (targets : List (KnownExpr × Assignment)) →
      NamesTold (names_in_targets (map (λ (target : Expr × Assignment). (operand target.0, target.1)) (map (λ (target : KnownExpr × Assignment). (target.0.0, target.1)) targets)))
      (joined (map spell_target (map (λ (target : Expr × Assignment). (spell_expr target.0, target.1)) (map (λ (target : KnownExpr × Assignment). (target.0.0, target.1)) targets))))
  targets_told [] = none
  targets_told (target ∷ targets) = told-append (told_before (assignment_kind target.1) (assignment_quiet target.1) (target.0.1 plain)) (targets_told targets)

  -- one level, where it is known of each part
  abbrev level_of_expr : Expr-F KnownExpr KnownSuffix → Expr-F Expr Suffix
  level_of_expr y = map-Expr KnownExpr KnownSuffix Expr Suffix expr_of suffix_of y

  abbrev level_of_suffix : Suffix-F KnownExpr KnownSuffix → Suffix-F Expr Suffix
  level_of_suffix y = map-Suffix KnownExpr KnownSuffix Expr Suffix expr_of suffix_of y

  expr_level : (y : Expr-F KnownExpr KnownSuffix) →
      OperandTold (expr_step (map-Expr Expr Suffix Operand Tail operand tail_of (level_of_expr y)))
      (spell_expr_step (map-Expr Expr Suffix (List Spelled) (List Spelled) spell_expr spell_suffix (level_of_expr y)))
  expr_level (Expr-F.Name n) = λ s. name_here (record { token = n; setting = s }) refl none
  expr_level (Expr-F.Integer n) = λ s. silent_leaf kind.Integer n refl
  expr_level (Expr-F.Floating n) = λ s. silent_leaf kind.Floating n refl
  expr_level (Expr-F.Character n) = λ s. silent_leaf kind.Character n refl
  expr_level (Expr-F.Text ns) = λ s. silent_texts ns
  expr_level (Expr-F.Group x) = λ s. told_in_parens (x.1 plain)
  expr_level (Expr-F.SizeofType t) = λ s. quiet kind.Sizeof None refl (told_in_parens (silent_type_name t))
  expr_level (Expr-F.Postfix x ps) = λ s. told-append (x.1 (before (map tail_of (map suffix_of ps)) s)) (tails_told (operand x.0).name ps)
  expr_level (Expr-F.Prefixed ops x) = λ s. told_after (silent_prefixes ops) (x.1 plain)
  expr_level (Expr-F.Chain x links) = λ s. told-append (x.1 plain) (links_told links)
  expr_level (Expr-F.Conditional x arms) = λ s. told-append (x.1 plain) (arms_told arms)
  expr_level (Expr-F.Assigned targets x) = λ s. told-append (targets_told targets) (x.1 plain)
  expr_level (Expr-F.Sequence x xs) = λ s. told-append (x.1 plain) (all_told xs)

  suffix_level : (y : Suffix-F KnownExpr KnownSuffix) →
      TailTold (suffix_step (map-Suffix Expr Suffix Operand Tail operand tail_of (level_of_suffix y)))
      (spell_suffix_step (map-Suffix Expr Suffix (List Spelled) (List Spelled) spell_expr spell_suffix (level_of_suffix y)))
  suffix_level (Suffix-F.Subscript x) = λ name. told_in_brackets (x.1 plain)
  suffix_level (Suffix-F.Call xs) = λ name. told_in_parens (arguments_told name xs)
  suffix_level (Suffix-F.Member n) = λ name. hidden kind.Dot n refl refl refl refl none
  suffix_level (Suffix-F.Arrow n) = λ name. hidden kind.Arrow n refl refl refl refl none
  suffix_level Suffix-F.Increment = λ name. silent_word kind.PlusPlus refl
  suffix_level Suffix-F.Decrement = λ name. silent_word kind.MinusMinus refl

  rolled_expr : (x : Expr-F Expr Suffix) (y : Expr-F KnownExpr KnownSuffix) → level_of_expr y ≡ x → ToldOfExpr (roll-Expr x)
  rolled_expr x y is =
      let z = level_of_expr y in
      let at_z : ToldOfExpr (roll-Expr z) =
      subst (λ (o : Operand). OperandTold o (spell_expr (roll-Expr z))) (sym (fold-roll-Expr Operand Tail expr_step suffix_step z))
      (subst (OperandTold (expr_step (map-Expr Expr Suffix Operand Tail operand tail_of z))) (sym (fold-roll-Expr (List Spelled) (List Spelled) spell_expr_step spell_suffix_step z)) (expr_level y)) in
      subst (λ v. ToldOfExpr (roll-Expr v)) is at_z

  rolled_suffix : (x : Suffix-F Expr Suffix) (y : Suffix-F KnownExpr KnownSuffix) → level_of_suffix y ≡ x → ToldOfSuffix (roll-Suffix x)
  rolled_suffix x y is =
      let z = level_of_suffix y in
      let at_z : ToldOfSuffix (roll-Suffix z) =
      subst (λ (p : Tail). TailTold p (spell_suffix (roll-Suffix z))) (sym (fold-roll-Suffix Operand Tail expr_step suffix_step z))
      (subst (TailTold (suffix_step (map-Suffix Expr Suffix Operand Tail operand tail_of z))) (sym (fold-roll-Suffix (List Spelled) (List Spelled) spell_expr_step spell_suffix_step z)) (suffix_level y)) in
      subst (λ v. ToldOfSuffix (roll-Suffix v)) is at_z

  expr_told : (e : Expr) → NamesTold ((operand e).names plain) (spell_expr e)
  expr_told e = ind-Expr ToldOfExpr ToldOfSuffix rolled_expr rolled_suffix e plain

  told_if : (e : Option Expr) → NamesTold (names_if e) (perhaps spell_expr e)
  told_if None = none
  told_if (Some e) = expr_told e

  length_told : (e : Option Expr) → NamesTold (names_if e) (spell_length e)
  length_told e = told_in_brackets (told_if e)

  -- ---- initialisers

  abbrev ToldOfInit : Init → Type 0
  ToldOfInit i = NamesTold (names_in_init i) (spell_init i)

  abbrev KnownInit : Type 0
  KnownInit = (i : Init) × ToldOfInit i

  abbrev init_of : KnownInit → Init
  init_of k = k.0

  more_values : (vs : List KnownInit) → NamesTold (names_in_values (map names_in_init (map init_of vs))) (after kind.Comma (map spell_init (map init_of vs)))
  more_values [] = none
  more_values (v ∷ vs) = quiet kind.Comma None refl (told-append v.1 (more_values vs))

  values_told : (vs : List KnownInit) → NamesTold (names_in_values (map names_in_init (map init_of vs))) (commas (map spell_init (map init_of vs)))
  values_told [] = none
  values_told (v ∷ vs) = told-append v.1 (more_values vs)

  abbrev level_of_init : Init-F KnownInit → Init-F Init
  level_of_init y = map-Init KnownInit Init init_of y

  init_level : (y : Init-F KnownInit) → NamesTold (init_step (map-Init Init (List ExpressionName) names_in_init (level_of_init y))) (spell_init_step (map-Init Init (List Spelled) spell_init (level_of_init y)))
  init_level (Init-F.Value e) = expr_told e
  init_level (Init-F.List vs trailing) = told_in_braces (told_then (values_told vs) (silent_written kind.Comma trailing refl))

  rolled_init : (x : Init-F Init) (y : Init-F KnownInit) → level_of_init y ≡ x → ToldOfInit (roll-Init x)
  rolled_init x y is =
      let z = level_of_init y in
      let at_z : ToldOfInit (roll-Init z) =
      subst (λ (ns : List ExpressionName). NamesTold ns (spell_init (roll-Init z))) (sym (fold-roll-Init (List ExpressionName) init_step z))
      (subst (NamesTold (init_step (map-Init Init (List ExpressionName) names_in_init z))) (sym (fold-roll-Init (List Spelled) spell_init_step z)) (init_level y)) in
      subst (λ v. ToldOfInit (roll-Init v)) is at_z

  value_told : (v : Option Init) → NamesTold (names_in_value v) (perhaps spell_value v)
  value_told None = none
  value_told (Some i) = quiet kind.Equal None refl (ind-Init ToldOfInit rolled_init i)

-- ---- the same as occurrences

abbrev pub sort_of : What → Sort
sort_of (what.Name m) = a_name
sort_of (what.Declaration is_wrong) = a_name
sort_of (what.Jump in_loop) = a_jump
sort_of (what.Change in_transition) = a_change
sort_of what.Target = a_target

abbrev pub found_at : Occurrence → ℕ
found_at o = o.token

abbrev pub found_sort : Occurrence → Sort
found_sort o = sort_of o.what

module _ (has : Case → Type 0) where
  abbrev pub FoundTold : List Occurrence → List Spelled → Type 0
  FoundTold = AreTold found_at found_sort has

  module _ (bytes : ℕ → List ℕ) (visible : Names) (in_condition : Bool) where
    seen_told : {ns : List ExpressionName} {xs : List Spelled} → AreTold name_at sort_of_name has ns xs → FoundTold (map (seen bytes visible in_condition) ns) xs
    seen_told none = none
    seen_told (quiet k o q l) = quiet k o q (seen_told l)
    seen_told (hidden k n h e j s l) = hidden k n h e j s (seen_told l)
    seen_told (name_here y is l) = name_here (seen bytes visible in_condition y) is (seen_told l)
    seen_told (jump_here k y j e s h is l) = jump_here k (seen bytes visible in_condition y) j e s h is (seen_told l)
    seen_told (stay_here y n p is l) = stay_here (seen bytes visible in_condition y) n p is (seen_told l)
    seen_told (lead_here y t p is to l) = lead_here (seen bytes visible in_condition y) (seen bytes visible in_condition t) p is to (seen_told l)
    seen_told (target_here t p to l) = target_here (seen bytes visible in_condition t) p to (seen_told l)
    seen_told (passed x p e l) = passed x p e (seen_told l)

    pub seen_in_expr : (e : Expr) → FoundTold (map (seen bytes visible in_condition) ((operand e).names plain)) (spell_expr e)
    seen_in_expr e = seen_told (expr_told has e)

    pub seen_if : (e : Option Expr) → FoundTold (map (seen bytes visible in_condition) (names_if e)) (perhaps spell_expr e)
    seen_if e = seen_told (told_if has e)

    pub seen_in_lengths : (es : List (Option Expr)) → FoundTold (map (seen bytes visible in_condition) (flat_map names_if es)) (joined (map spell_length es))
    seen_in_lengths es = seen_told (told_joined names_if spell_length (length_told has) es)

    pub seen_in_value : (v : Option Init) → FoundTold (map (seen bytes visible in_condition) (names_in_value v)) (perhaps spell_value v)
    seen_in_value v = seen_told (value_told has v)
