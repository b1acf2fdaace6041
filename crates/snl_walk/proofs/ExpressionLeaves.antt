-- The names in expressions and initialisers are leaves of what these spell, in their order.
use Rattle.std.proofs.Common.{◌≡◌, ℕ, Bool, true, false, ◌⊎◌, inl, inr, List, [], ◌∷◌, ◌++◌, map, Option, None, Some, refl, sym, subst, true≢false}
use Rattle.std.specs.List.{flat_map}
use Rattle.snl_lex.specs.declared.kind.Kind.TheVariants as kind
use Rattle.snl_grammar.specs.declared.operator.Assignment.{Assignment}
use Rattle.snl_grammar.specs.declared.operator.Binary.{Binary}
use Rattle.snl_grammar.specs.declared.tree.declaration.Init.{Init}
use Rattle.snl_grammar.specs.declared.tree.declaration.Init.TheOpen.{Init-F}
use Rattle.snl_grammar.specs.declared.tree.declaration.Init.TheFolds.{fold-roll-Init, ind-Init, map-Init}
use Rattle.snl_grammar.specs.declared.tree.declaration.Init.TheViews.{roll-Init}
use Rattle.snl_grammar.specs.declared.tree.expression.Expr.{Expr}
use Rattle.snl_grammar.specs.declared.tree.expression.Expr.TheOpen.{Expr-F, Suffix-F}
use Rattle.snl_grammar.specs.declared.tree.expression.Expr.TheFolds.{fold-roll-Expr, fold-roll-Suffix, ind-Expr, map-Expr, map-Suffix}
use Rattle.snl_grammar.specs.declared.tree.expression.Expr.TheViews.{roll-Expr, roll-Suffix}
use Rattle.snl_grammar.specs.declared.tree.expression.Suffix.{Suffix}
use Rattle.snl_grammar.specs.Operators.{assignment_kind, binary_kind}
use Rattle.snl_grammar.specs.Spelling.Base.{Spelled, after, commas, in_brackets, in_parens, joined, leaf, perhaps, word, written}
use Rattle.snl_grammar.specs.Spelling.Declarations.{spell_init, spell_init_step, spell_length, spell_value}
use Rattle.snl_grammar.specs.Spelling.Expressions.{spell_arm, spell_expr, spell_expr_step, spell_link, spell_prefix, spell_suffix, spell_suffix_step, spell_target, spell_texts}
use Rattle.snl_grammar.specs.Spelling.Types.{spell_type_name}
use Rattle.snl_walk.specs.declared.occurrence.Follows.TheVariants as follows
use Rattle.snl_walk.specs.declared.occurrence.ExpressionName.{ExpressionName}
use Rattle.snl_walk.specs.declared.occurrence.Occurrence.{Occurrence}
use Rattle.snl_walk.specs.declared.occurrence.Setting.{Setting}
use Rattle.snl_walk.specs.Expressions.{Operand, Tail, before, expr_step, following, init_step, names_if, names_in_all, names_in_arguments, names_in_arms, names_in_init, names_in_links, names_in_tails, names_in_targets, names_in_value, names_in_values, naming, operand, plain, subscript_by, suffix_step, tail_of}
use Rattle.snl_walk.specs.Scopes.{Names, seen}
use Rattle.snl_walk.specs.Uses.{is_index, is_indexed}
use Rattle.snl_walk.proofs.Leaves.{AreLeaves, BeginsIndex, none, past, here, begins_more, leaves-append, leaves_before, leaves_after, leaves_in_parens, leaves_joined, no_leaves, one_leaf}

abbrev pub named_at : ExpressionName → ℕ
named_at n = n.token

abbrev pub named_indexed : ExpressionName → Bool
named_indexed n = is_index n.setting.follows

abbrev NamedLeaves : List ExpressionName → List Spelled → Type 0
NamedLeaves = AreLeaves named_at named_indexed

-- A name alone takes its setting as it comes; in any other operand what is found doesn't depend on
-- what follows it.
record IsAlone (o : Operand) (xs : List Spelled) : Type 0 where
  number : ℕ
  names : (s : Setting) → o.names s ≡ record { token = number; setting = s } ∷ []
  spelled : xs ≡ leaf kind.Name number

record HasLeaves (o : Operand) (xs : List Spelled) : Type 0 where
  leaves : IsAlone o xs ⊎ ((s : Setting) → NamedLeaves (o.names s) xs)
  integer : o.is_integer ≡ true → (m : ℕ) × (xs ≡ leaf kind.Integer m)

record TailLeaves (t : Tail) (xs : List Spelled) : Type 0 where
  leaves : (name : Option ℕ) → NamedLeaves (t.names name) xs
  index : is_index t.follows ≡ true → BeginsIndex xs

abbrev LeavesOfExpr : Expr → Type 0
LeavesOfExpr e = HasLeaves (operand e) (spell_expr e)

abbrev LeavesOfSuffix : Suffix → Type 0
LeavesOfSuffix p = TailLeaves (tail_of p) (spell_suffix p)

alone_at : (o : Operand) (xs : List Spelled) (s : Setting) → is_index s.follows ≡ false → IsAlone o xs → NamedLeaves (o.names s) xs
alone_at o xs s plain a =
    subst (λ ns. NamedLeaves ns xs) (sym (a.names s)) (subst (NamedLeaves (record { token = a.number; setting = s } ∷ [])) (sym a.spelled) (one_leaf kind.Name (record { token = a.number; setting = s }) plain))

-- in a setting in which no subscript follows
at_setting : (o : Operand) (xs : List Spelled) (s : Setting) → is_index s.follows ≡ false → HasLeaves o xs → NamedLeaves (o.names s) xs
at_setting o xs s unindexed h = by h.leaves
  where
    by : IsAlone o xs ⊎ ((z : Setting) → NamedLeaves (o.names z) xs) → NamedLeaves (o.names s) xs
    by (inl a) = alone_at o xs s unindexed a
    by (inr f) = f s

plainly : (o : Operand) (xs : List Spelled) → HasLeaves o xs → NamedLeaves (o.names plain) xs
plainly o xs h = at_setting o xs plain refl h

-- an expression that is more than a name or an integer
more : (names : List ExpressionName) (xs : List Spelled) → NamedLeaves names xs → HasLeaves (naming names) xs
more names xs l = record { leaves = inr (λ s. l); integer = λ e. absurd (true≢false (sym e)) }

-- expressions and suffixes of which it is known
abbrev KnownExpr : Type 0
KnownExpr = (e : Expr) × LeavesOfExpr e

abbrev KnownSuffix : Type 0
KnownSuffix = (p : Suffix) × LeavesOfSuffix p

abbrev expr_of : KnownExpr → Expr
expr_of k = k.0

abbrev suffix_of : KnownSuffix → Suffix
suffix_of k = k.0

abbrev argument_setting : Option ℕ → Setting
argument_setting call = record { follows = follows.Nothing; argument_of = call }

in_expr : (k : KnownExpr) → NamedLeaves ((operand k.0).names plain) (spell_expr k.0)
in_expr k = plainly (operand k.0) (spell_expr k.0) k.1

in_argument : (call : Option ℕ) (k : KnownExpr) → NamedLeaves ((operand k.0).names (argument_setting call)) (spell_expr k.0)
in_argument call k = at_setting (operand k.0) (spell_expr k.0) (argument_setting call) refl k.1

tails_leaves : (name : Option ℕ) (ps : List KnownSuffix) → NamedLeaves (names_in_tails name (map tail_of (map suffix_of ps))) (joined (map spell_suffix (map suffix_of ps)))
tails_leaves name [] = none
tails_leaves name (p ∷ ps) = leaves-append (p.1.leaves name) (tails_leaves None ps)

index_first : (ps : List KnownSuffix) → is_index (following (map tail_of (map suffix_of ps))) ≡ true → BeginsIndex (joined (map spell_suffix (map suffix_of ps)))
index_first [] e = absurd (true≢false (sym e))
index_first (p ∷ ps) e = begins_more (spell_suffix p.0) (joined (map spell_suffix (map suffix_of ps))) (p.1.index e)

-- an operand with suffixes
postfix_leaves : (x : KnownExpr) (ps : List KnownSuffix) (s : Setting) →
    NamedLeaves ((operand x.0).names (before (map tail_of (map suffix_of ps)) s) ++ names_in_tails (operand x.0).name (map tail_of (map suffix_of ps))) (spell_expr x.0 ++ joined (map spell_suffix (map suffix_of ps)))
postfix_leaves x ps s = by x.1.leaves
  where
    by : IsAlone (operand x.0) (spell_expr x.0) ⊎ ((z : Setting) → NamedLeaves ((operand x.0).names z) (spell_expr x.0)) →
        NamedLeaves ((operand x.0).names (before (map tail_of (map suffix_of ps)) s) ++ names_in_tails (operand x.0).name (map tail_of (map suffix_of ps))) (spell_expr x.0 ++ joined (map spell_suffix (map suffix_of ps)))
    by (inr f) = leaves-append (f (before (map tail_of (map suffix_of ps)) s)) (tails_leaves (operand x.0).name ps)
    by (inl a) =
        let inner : Setting = before (map tail_of (map suffix_of ps)) s in
        let ns : List ExpressionName = names_in_tails (operand x.0).name (map tail_of (map suffix_of ps)) in
        let ys : List Spelled = joined (map spell_suffix (map suffix_of ps)) in
        subst (λ (l : List ExpressionName). NamedLeaves (l ++ ns) (spell_expr x.0 ++ ys)) (sym (a.names inner))
        (subst (λ (xs : List Spelled). NamedLeaves (record { token = a.number; setting = inner } ∷ ns) (xs ++ ys)) (sym a.spelled)
        (here kind.Name (record { token = a.number; setting = inner }) (index_first ps) (tails_leaves (operand x.0).name ps)))

all_leaves : (xs : List KnownExpr) → NamedLeaves (names_in_all (map operand (map expr_of xs))) (after kind.Comma (map spell_expr (map expr_of xs)))
all_leaves [] = none
all_leaves (x ∷ xs) = leaves_after (word kind.Comma) (leaves-append (in_expr x) (all_leaves xs))

more_arguments : (call : Option ℕ) (xs : List KnownExpr) → NamedLeaves (names_in_arguments call (map operand (map expr_of xs))) (after kind.Comma (map spell_expr (map expr_of xs)))
more_arguments call [] = none
more_arguments call (x ∷ xs) = leaves_after (word kind.Comma) (leaves-append (in_argument call x) (more_arguments None xs))

argument_leaves : (call : Option ℕ) (xs : List KnownExpr) → NamedLeaves (names_in_arguments call (map operand (map expr_of xs))) (commas (map spell_expr (map expr_of xs)))
argument_leaves call [] = none
argument_leaves call (x ∷ xs) = leaves-append (in_argument call x) (more_arguments None xs)

link_leaves : (links : List (Binary × KnownExpr)) →
    NamedLeaves (names_in_links (map (λ (link : Binary × Expr). (link.0, operand link.1)) (map (λ (link : Binary × KnownExpr). (link.0, link.1.0)) links)))
    (joined (map spell_link (map (λ (link : Binary × Expr). (link.0, spell_expr link.1)) (map (λ (link : Binary × KnownExpr). (link.0, link.1.0)) links))))
link_leaves [] = none
link_leaves (link ∷ links) = leaves-append (leaves_after (word (binary_kind link.0)) (in_expr link.1)) (link_leaves links)

arm_leaves : (arms : List (KnownExpr × KnownExpr)) →
    NamedLeaves (names_in_arms (map (λ (arm : Expr × Expr). (operand arm.0, operand arm.1)) (map (λ (arm : KnownExpr × KnownExpr). (arm.0.0, arm.1.0)) arms)))
    (joined (map spell_arm (map (λ (arm : Expr × Expr). (spell_expr arm.0, spell_expr arm.1)) (map (λ (arm : KnownExpr × KnownExpr). (arm.0.0, arm.1.0)) arms))))
arm_leaves [] = none
arm_leaves (arm ∷ arms) =
    leaves-append (leaves-append (leaves_after (word kind.Question) (leaves_before (word kind.Colon) (in_expr arm.0))) (in_expr arm.1)) (arm_leaves arms)

target_leaves : (targets : List (KnownExpr × Assignment)) →
    NamedLeaves (names_in_targets (map (λ (target : Expr × Assignment). (operand target.0, target.1)) (map (λ (target : KnownExpr × Assignment). (target.0.0, target.1)) targets)))
    (joined (map spell_target (map (λ (target : Expr × Assignment). (spell_expr target.0, target.1)) (map (λ (target : KnownExpr × Assignment). (target.0.0, target.1)) targets))))
target_leaves [] = none
target_leaves (target ∷ targets) = leaves-append (leaves_before (word (assignment_kind target.1)) (in_expr target.0)) (target_leaves targets)

-- one level, where it is known of each part
abbrev level_of_expr : Expr-F KnownExpr KnownSuffix → Expr-F Expr Suffix
level_of_expr y = map-Expr KnownExpr KnownSuffix Expr Suffix expr_of suffix_of y

abbrev level_of_suffix : Suffix-F KnownExpr KnownSuffix → Suffix-F Expr Suffix
level_of_suffix y = map-Suffix KnownExpr KnownSuffix Expr Suffix expr_of suffix_of y

expr_level : (y : Expr-F KnownExpr KnownSuffix) →
    HasLeaves (expr_step (map-Expr Expr Suffix Operand Tail operand tail_of (level_of_expr y)))
    (spell_expr_step (map-Expr Expr Suffix (List Spelled) (List Spelled) spell_expr spell_suffix (level_of_expr y)))
expr_level (Expr-F.Name n) = record { leaves = inl (record { number = n; names = λ s. refl; spelled = refl }); integer = λ e. absurd (true≢false (sym e)) }
expr_level (Expr-F.Integer n) = record { leaves = inr (λ s. no_leaves (leaf kind.Integer n)); integer = λ e. (n, refl) }
expr_level (Expr-F.Floating n) = more [] _ (no_leaves (leaf kind.Floating n))
expr_level (Expr-F.Character n) = more [] _ (no_leaves (leaf kind.Character n))
expr_level (Expr-F.Text ns) = more [] _ (no_leaves (spell_texts ns))
expr_level (Expr-F.Group x) = more _ _ (leaves_in_parens (in_expr x))
expr_level (Expr-F.SizeofType t) = more [] _ (no_leaves (word kind.Sizeof ++ in_parens (spell_type_name t)))
expr_level (Expr-F.Postfix x ps) = record { leaves = inr (postfix_leaves x ps); integer = λ e. absurd (true≢false (sym e)) }
expr_level (Expr-F.Prefixed ops x) = more _ _ (leaves_after (joined (map spell_prefix ops)) (in_expr x))
expr_level (Expr-F.Chain x links) = more _ _ (leaves-append (in_expr x) (link_leaves links))
expr_level (Expr-F.Conditional x arms) = more _ _ (leaves-append (in_expr x) (arm_leaves arms))
expr_level (Expr-F.Assigned targets x) = more _ _ (leaves-append (target_leaves targets) (in_expr x))
expr_level (Expr-F.Sequence x xs) = more _ _ (leaves-append (in_expr x) (all_leaves xs))

-- a subscript
subscript_index : (x : KnownExpr) → is_index (subscript_by (operand x.0).is_integer) ≡ true → BeginsIndex (in_brackets (spell_expr x.0))
subscript_index x e = by (operand x.0).is_integer refl e
  where
    by : (b : Bool) → (operand x.0).is_integer ≡ b → is_index (subscript_by b) ≡ true → BeginsIndex (in_brackets (spell_expr x.0))
    by true is i = let w : (m : ℕ) × (spell_expr x.0 ≡ leaf kind.Integer m) = x.1.integer is in subst (λ xs. BeginsIndex (in_brackets xs)) (sym w.1) refl
    by false is i = absurd (true≢false (sym i))

suffix_level : (y : Suffix-F KnownExpr KnownSuffix) →
    TailLeaves (suffix_step (map-Suffix Expr Suffix Operand Tail operand tail_of (level_of_suffix y)))
    (spell_suffix_step (map-Suffix Expr Suffix (List Spelled) (List Spelled) spell_expr spell_suffix (level_of_suffix y)))
suffix_level (Suffix-F.Subscript x) = record { leaves = λ name. leaves_after (word kind.OpenBracket) (leaves_before (word kind.CloseBracket) (in_expr x)); index = subscript_index x }
suffix_level (Suffix-F.Call xs) = record { leaves = λ name. leaves_in_parens (argument_leaves name xs); index = λ e. absurd (true≢false (sym e)) }
suffix_level (Suffix-F.Member n) = record { leaves = λ name. no_leaves (word kind.Dot ++ leaf kind.Name n); index = λ e. absurd (true≢false (sym e)) }
suffix_level (Suffix-F.Arrow n) = record { leaves = λ name. no_leaves (word kind.Arrow ++ leaf kind.Name n); index = λ e. absurd (true≢false (sym e)) }
suffix_level Suffix-F.Increment = record { leaves = λ name. no_leaves (word kind.PlusPlus); index = λ e. absurd (true≢false (sym e)) }
suffix_level Suffix-F.Decrement = record { leaves = λ name. no_leaves (word kind.MinusMinus); index = λ e. absurd (true≢false (sym e)) }

rolled_expr : (x : Expr-F Expr Suffix) (y : Expr-F KnownExpr KnownSuffix) → level_of_expr y ≡ x → LeavesOfExpr (roll-Expr x)
rolled_expr x y is =
    let z = level_of_expr y in
    let at_z : LeavesOfExpr (roll-Expr z) =
    subst (λ (o : Operand). HasLeaves o (spell_expr (roll-Expr z))) (sym (fold-roll-Expr Operand Tail expr_step suffix_step z))
    (subst (HasLeaves (expr_step (map-Expr Expr Suffix Operand Tail operand tail_of z))) (sym (fold-roll-Expr (List Spelled) (List Spelled) spell_expr_step spell_suffix_step z)) (expr_level y)) in
    subst (λ v. LeavesOfExpr (roll-Expr v)) is at_z

rolled_suffix : (x : Suffix-F Expr Suffix) (y : Suffix-F KnownExpr KnownSuffix) → level_of_suffix y ≡ x → LeavesOfSuffix (roll-Suffix x)
rolled_suffix x y is =
    let z = level_of_suffix y in
    let at_z : LeavesOfSuffix (roll-Suffix z) =
    subst (λ (p : Tail). TailLeaves p (spell_suffix (roll-Suffix z))) (sym (fold-roll-Suffix Operand Tail expr_step suffix_step z))
    (subst (TailLeaves (suffix_step (map-Suffix Expr Suffix Operand Tail operand tail_of z))) (sym (fold-roll-Suffix (List Spelled) (List Spelled) spell_expr_step spell_suffix_step z)) (suffix_level y)) in
    subst (λ v. LeavesOfSuffix (roll-Suffix v)) is at_z

known_expr : (e : Expr) → LeavesOfExpr e
known_expr = ind-Expr LeavesOfExpr LeavesOfSuffix rolled_expr rolled_suffix

expr_leaves : (e : Expr) → NamedLeaves ((operand e).names plain) (spell_expr e)
expr_leaves e = plainly (operand e) (spell_expr e) (known_expr e)

leaves_if : (e : Option Expr) → NamedLeaves (names_if e) (perhaps spell_expr e)
leaves_if None = none
leaves_if (Some e) = expr_leaves e

length_leaves : (e : Option Expr) → NamedLeaves (names_if e) (spell_length e)
length_leaves e = leaves_after (word kind.OpenBracket) (leaves_before (word kind.CloseBracket) (leaves_if e))

-- ---- initialisers

abbrev LeavesOfInit : Init → Type 0
LeavesOfInit i = NamedLeaves (names_in_init i) (spell_init i)

abbrev KnownInit : Type 0
KnownInit = (i : Init) × LeavesOfInit i

abbrev init_of : KnownInit → Init
init_of k = k.0

more_values : (vs : List KnownInit) → NamedLeaves (names_in_values (map names_in_init (map init_of vs))) (after kind.Comma (map spell_init (map init_of vs)))
more_values [] = none
more_values (v ∷ vs) = leaves_after (word kind.Comma) (leaves-append v.1 (more_values vs))

value_leaves : (vs : List KnownInit) → NamedLeaves (names_in_values (map names_in_init (map init_of vs))) (commas (map spell_init (map init_of vs)))
value_leaves [] = none
value_leaves (v ∷ vs) = leaves-append v.1 (more_values vs)

abbrev level_of_init : Init-F KnownInit → Init-F Init
level_of_init y = map-Init KnownInit Init init_of y

init_level : (y : Init-F KnownInit) → NamedLeaves (init_step (map-Init Init (List ExpressionName) names_in_init (level_of_init y))) (spell_init_step (map-Init Init (List Spelled) spell_init (level_of_init y)))
init_level (Init-F.Value e) = expr_leaves e
init_level (Init-F.List vs trailing) =
    leaves_after (word kind.OpenBrace) (leaves_before (word kind.CloseBrace) (leaves_before (written kind.Comma trailing) (value_leaves vs)))

rolled_init : (x : Init-F Init) (y : Init-F KnownInit) → level_of_init y ≡ x → LeavesOfInit (roll-Init x)
rolled_init x y is =
    let z = level_of_init y in
    let at_z : LeavesOfInit (roll-Init z) =
    subst (λ (ns : List ExpressionName). NamedLeaves ns (spell_init (roll-Init z))) (sym (fold-roll-Init (List ExpressionName) init_step z))
    (subst (NamedLeaves (init_step (map-Init Init (List ExpressionName) names_in_init z))) (sym (fold-roll-Init (List Spelled) spell_init_step z)) (init_level y)) in
    subst (λ v. LeavesOfInit (roll-Init v)) is at_z

init_leaves : (i : Init) → LeavesOfInit i
init_leaves = ind-Init LeavesOfInit rolled_init

leaves_of_value : (v : Option Init) → NamedLeaves (names_in_value v) (perhaps spell_value v)
leaves_of_value None = none
leaves_of_value (Some i) = leaves_after (word kind.Equal) (init_leaves i)

-- ---- the same as occurrences

abbrev pub found_at : Occurrence → ℕ
found_at o = o.token

abbrev pub found_indexed : Occurrence → Bool
found_indexed o = is_indexed o.what

abbrev pub FoundLeaves : List Occurrence → List Spelled → Type 0
FoundLeaves = AreLeaves found_at found_indexed

module _ (bytes : ℕ → List ℕ) (visible : Names) (in_condition : Bool) where
  seen_leaves : {ns : List ExpressionName} {xs : List Spelled} → NamedLeaves ns xs → FoundLeaves (map (seen bytes visible in_condition) ns) xs
  seen_leaves none = none
  seen_leaves (past x l) = past x (seen_leaves l)
  seen_leaves (here k n f l) = here k (seen bytes visible in_condition n) f (seen_leaves l)

  pub seen_in_expr : (e : Expr) → FoundLeaves (map (seen bytes visible in_condition) ((operand e).names plain)) (spell_expr e)
  seen_in_expr e = seen_leaves (expr_leaves e)

  pub seen_if : (e : Option Expr) → FoundLeaves (map (seen bytes visible in_condition) (names_if e)) (perhaps spell_expr e)
  seen_if e = seen_leaves (leaves_if e)

  pub seen_in_lengths : (es : List (Option Expr)) → FoundLeaves (map (seen bytes visible in_condition) (flat_map names_if es)) (joined (map spell_length es))
  seen_in_lengths es = seen_leaves (leaves_joined names_if spell_length length_leaves es)

  pub seen_in_value : (v : Option Init) → FoundLeaves (map (seen bytes visible in_condition) (names_in_value v)) (perhaps spell_value v)
  seen_in_value v = seen_leaves (leaves_of_value v)
