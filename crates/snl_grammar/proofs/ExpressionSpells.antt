-- Expressions spell their tokens.
use Rattle.std.proofs.Common.{◌≡◌, ℕ, zero, suc, Bool, false, List, [], ◌∷◌, map, refl}
use Rattle.snl_lex.specs.declared.kind.Kind.TheVariants as kind
use Rattle.snl_grammar.specs.declared.tree.types.TypeName.{TypeName}
use Rattle.snl_grammar.specs.declared.tree.expression.Suffix.{Suffix}
use Rattle.snl_grammar.specs.declared.tree.expression.Expr.{Expr}
use Rattle.snl_grammar.specs.declared.tree.expression.Expr.TheOpen.{Expr-F, Suffix-F}
use Rattle.snl_grammar.specs.declared.tree.expression.Expr.TheViews.{roll-Expr, roll-Suffix}
use Rattle.snl_grammar.specs.declared.tree.expression.Expr.TheFolds.{map-Expr, map-Suffix, fold-roll-Expr, fold-roll-Suffix}
use denote.Hole.Carrier.{roll}
use Rattle.snl_grammar.specs.Tokens.{NumberedKind}
use Rattle.snl_grammar.specs.Grammar.Base.{First, Leaf, Within}
use Rattle.snl_grammar.specs.Grammar.Types.{IsTypeName}
use Rattle.snl_grammar.specs.Grammar.Expressions.{AreTexts, IsSequence, one, several, IsPrimary, name, integer, floating, character, texts, group as is_group, sizeof_type, AreArguments, IsSuffix, subscript, call, member, arrow, increment, decrement, IsPostfix, bare as bare_primary, suffixed, IsOperator, sign, sizeof, cast, is_sizeof, AreOperators, IsPrefix, bare as bare_postfix, prefixed, IsLink, IsChain, alone as alone_operand, chain, IsTier, IsArm, IsConditional, alone as alone_tier, choice, IsTarget, IsSingle, value, assignment, IsAssignx, IsExpr}
use Rattle.snl_grammar.specs.Spelling.Base.{Spelled, leaf, joined, commas}
use Rattle.snl_grammar.specs.Spelling.Types.{spell_type_name}
use Rattle.snl_grammar.specs.Spelling.Expressions.{spell_texts, spell_prefix, spell_link, spell_arm, spell_target, spell_suffix_step, spell_expr_step, spell_expr, spell_suffix}
use Rattle.snl_grammar.proofs.Covers.{Covers, Spells, nothing_covers, word_covers, leaf_covers, ◌and◌, covers_as, each_spells, parts_spell, commas_cover, commas_spell, within_spells}
use Rattle.snl_grammar.proofs.TypeSpells.{type_name_spells}

-- ---- where the tree is one level, it spells what the level does

expr_covers : {t : Expr} {k rest : List NumberedKind} (level : Expr-F Expr Suffix) → t ≡ roll-Expr level → Covers (spell_expr_step (map-Expr Expr Suffix (List Spelled) (List Spelled) spell_expr spell_suffix level)) k rest → Covers (spell_expr t) k rest
expr_covers level is c = covers_as spell_expr is (fold-roll-Expr (List Spelled) (List Spelled) spell_expr_step spell_suffix_step level) c

suffix_covers : {t : Suffix} {k rest : List NumberedKind} (level : Suffix-F Expr Suffix) → t ≡ roll-Suffix level → Covers (spell_suffix_step (map-Suffix Expr Suffix (List Spelled) (List Spelled) spell_expr spell_suffix level)) k rest → Covers (spell_suffix t) k rest
suffix_covers level is c = covers_as spell_suffix is (fold-roll-Suffix (List Spelled) (List Spelled) spell_expr_step spell_suffix_step level) c

-- ---- what is in brackets

text_spells : Spells (Leaf kind.Text) (leaf kind.Text)
text_spells n k rest e = leaf_covers e

pub texts_spell : Spells AreTexts spell_texts
texts_spell [] k rest is = absurd is
texts_spell (n ∷ ns) k rest is = leaf_covers is.1 and each_spells (Leaf kind.Text) (leaf kind.Text) text_spells ns is.0 rest is.2

module _ (Inner : Expr → List NumberedKind → List NumberedKind → Type 0) (inner_spells : Spells Inner spell_expr) where
  pub sequence_spells : Spells (IsSequence Inner) spell_expr
  unfolding roll-Expr roll
  sequence_spells t k rest (one is) = inner_spells t k rest is
  sequence_spells t k rest (several x y ys mid is first more) = expr_covers (Expr-F.Sequence x (y ∷ ys)) is (commas_cover Inner spell_expr inner_spells x (y ∷ ys) k mid rest first more)

  -- the arguments, and the bracket after them
  arguments_spell : (xs : List Expr) (k rest : List NumberedKind) → AreArguments Inner xs k rest → (mid : List NumberedKind) × Covers (commas (map spell_expr xs)) k mid × First kind.CloseParen mid rest
  arguments_spell [] k rest closing = (k, nothing_covers refl, closing)
  arguments_spell (x ∷ xs) k rest are = (are.0, commas_spell Inner spell_expr inner_spells (x ∷ xs) k are.0 are.1, are.2)

  suffix_spells : Spells (IsSuffix Inner) spell_suffix
  unfolding roll-Suffix roll
  suffix_spells t k rest (subscript x m1 m2 is opening inside closing) = suffix_covers (Suffix-F.Subscript x) is (word_covers opening and sequence_spells x m1 m2 inside and word_covers closing)
  suffix_spells t k rest (call xs mid is opening are) =
      let inside = arguments_spell xs mid rest are in
      suffix_covers (Suffix-F.Call xs) is (word_covers opening and inside.1 and word_covers inside.2)
  suffix_spells t k rest (member n mid is dot at) = suffix_covers (Suffix-F.Member n) is (word_covers dot and leaf_covers at)
  suffix_spells t k rest (arrow n mid is mark at) = suffix_covers (Suffix-F.Arrow n) is (word_covers mark and leaf_covers at)
  suffix_spells t k rest (increment is mark) = suffix_covers Suffix-F.Increment is (word_covers mark)
  suffix_spells t k rest (decrement is mark) = suffix_covers Suffix-F.Decrement is (word_covers mark)

-- ---- operands

module _ (Names : TypeName → List NumberedKind → List NumberedKind → Type 0) (names_spell : Spells Names spell_type_name) where
  operator_spells : (after_sizeof : Bool) → Spells (IsOperator Names after_sizeof) spell_prefix
  operator_spells after_sizeof t k rest (sign op is mark) = covers_as spell_prefix is refl (word_covers mark)
  operator_spells after_sizeof t k rest (sizeof is mark) = covers_as spell_prefix is refl (word_covers mark)
  operator_spells after_sizeof t k rest (cast x m1 m2 may is opening inside closing) = covers_as spell_prefix is refl (word_covers opening and names_spell x m1 m2 inside and word_covers closing)

  operators_spell : (after_sizeof : Bool) → Spells (AreOperators Names after_sizeof) (λ ops. joined (map spell_prefix ops))
  operators_spell after_sizeof [] k rest e = nothing_covers e
  operators_spell after_sizeof (op ∷ ops) k rest are = operator_spells after_sizeof op k are.0 are.1 and operators_spell (is_sizeof op) ops are.0 rest are.2

module _ (Inner : Expr → List NumberedKind → List NumberedKind → Type 0) (inner_spells : Spells Inner spell_expr) (Names : TypeName → List NumberedKind → List NumberedKind → Type 0) (names_spell : Spells Names spell_type_name) where
  primary_spells : Spells (IsPrimary Inner Names) spell_expr
  unfolding roll-Expr roll
  primary_spells t k rest (name n is at) = expr_covers (Expr-F.Name n) is (leaf_covers at)
  primary_spells t k rest (integer n is at) = expr_covers (Expr-F.Integer n) is (leaf_covers at)
  primary_spells t k rest (floating n is at) = expr_covers (Expr-F.Floating n) is (leaf_covers at)
  primary_spells t k rest (character n is at) = expr_covers (Expr-F.Character n) is (leaf_covers at)
  primary_spells t k rest (texts ns is are) = expr_covers (Expr-F.Text ns) is (texts_spell ns k rest are)
  primary_spells t k rest (is_group x m1 m2 is opening inside closing) = expr_covers (Expr-F.Group x) is (word_covers opening and sequence_spells Inner inner_spells x m1 m2 inside and word_covers closing)
  primary_spells t k rest (sizeof_type x m1 m2 m3 is mark opening inside closing) = expr_covers (Expr-F.SizeofType x) is (word_covers mark and (word_covers opening and names_spell x m2 m3 inside and word_covers closing))

  postfix_spells : Spells (IsPostfix Inner Names) spell_expr
  unfolding roll-Expr roll
  postfix_spells t k rest (bare_primary is) = primary_spells t k rest is
  postfix_spells t k rest (suffixed x s ss mid is operand suffixes_are) = expr_covers (Expr-F.Postfix x (s ∷ ss)) is (primary_spells x k mid operand and each_spells (IsSuffix Inner) spell_suffix (suffix_spells Inner inner_spells) (s ∷ ss) mid rest suffixes_are)

  prefix_spells : Spells (IsPrefix Inner Names) spell_expr
  unfolding roll-Expr roll
  prefix_spells t k rest (bare_postfix is) = postfix_spells t k rest is
  prefix_spells t k rest (prefixed op ops x mid is are operand) = expr_covers (Expr-F.Prefixed (op ∷ ops) x) is (operators_spell Names names_spell false (op ∷ ops) k mid are and postfix_spells x mid rest operand)

-- ---- operators between operands

link_spells : (n : ℕ) (Operand : Expr → List NumberedKind → List NumberedKind → Type 0) → Spells Operand spell_expr → Spells (IsLink n Operand) (λ link. spell_link (link.0, spell_expr link.1))
link_spells n Operand spells link k rest is = word_covers is.operator and spells link.1 is.mid rest is.operand

chain_spells : (n : ℕ) (Operand : Expr → List NumberedKind → List NumberedKind → Type 0) → Spells Operand spell_expr → Spells (IsChain n Operand) spell_expr
unfolding roll-Expr roll
chain_spells n Operand spells t k rest (alone_operand is) = spells t k rest is
chain_spells n Operand spells t k rest (chain x link links mid is first more) =
    expr_covers (Expr-F.Chain x (link ∷ links)) is (spells x k mid first and parts_spell (IsLink n Operand) (λ l. (l.0, spell_expr l.1)) spell_link (link_spells n Operand spells) (link ∷ links) mid rest more)

module _ (Inner : Expr → List NumberedKind → List NumberedKind → Type 0) (inner_spells : Spells Inner spell_expr) (Names : TypeName → List NumberedKind → List NumberedKind → Type 0) (names_spell : Spells Names spell_type_name) where
  tier_spells : (n : ℕ) → Spells (IsTier Inner Names n) spell_expr
  tier_spells zero t k rest is = prefix_spells Inner inner_spells Names names_spell t k rest is
  tier_spells (suc n) t k rest is = chain_spells (suc n) (IsTier Inner Names n) (tier_spells n) t k rest is

  arm_spells : Spells (IsArm Inner (IsTier Inner Names 10)) (λ arm. spell_arm (spell_expr arm.0, spell_expr arm.1))
  arm_spells arm k rest is = word_covers is.question and sequence_spells Inner inner_spells arm.0 is.m1 is.m2 is.middle and word_covers is.colon and tier_spells 10 arm.1 is.m3 rest is.operand

  conditional_spells : Spells (IsConditional Inner Names) spell_expr
  unfolding roll-Expr roll
  conditional_spells t k rest (alone_tier is) = tier_spells 10 t k rest is
  conditional_spells t k rest (choice x arm arms mid is first more) =
      expr_covers (Expr-F.Conditional x (arm ∷ arms)) is (tier_spells 10 x k mid first and parts_spell (IsArm Inner (IsTier Inner Names 10)) (λ a. (spell_expr a.0, spell_expr a.1)) spell_arm arm_spells (arm ∷ arms) mid rest more)

  target_spells : Spells (IsTarget Inner Names) (λ target. spell_target (spell_expr target.0, target.1))
  target_spells target k rest is = prefix_spells Inner inner_spells Names names_spell target.0 k is.mid is.operand and word_covers is.operator

  single_spells : Spells (IsSingle Inner Names) spell_expr
  unfolding roll-Expr roll
  single_spells t k rest (value is) = conditional_spells t k rest is
  single_spells t k rest (assignment target targets x mid is front last) =
      expr_covers (Expr-F.Assigned (target ∷ targets) x) is (parts_spell (IsTarget Inner Names) (λ a. (spell_expr a.0, a.1)) spell_target target_spells (target ∷ targets) k mid front and conditional_spells x mid rest last)

-- ---- expressions

names_within : (free extra depth : ℕ) → Spells (Within free extra depth IsTypeName) spell_type_name
names_within free extra depth = within_spells free extra depth IsTypeName spell_type_name type_name_spells

pub assignx_spells : (free extra depth : ℕ) → Spells (IsAssignx free extra depth) spell_expr
assignx_spells free extra (suc depth) t k rest is = single_spells (IsAssignx free extra depth) (assignx_spells free extra depth) (Within free extra depth IsTypeName) (names_within free extra depth) t k rest is
assignx_spells free (suc extra) zero t k rest is = single_spells (IsAssignx free extra zero) (assignx_spells free extra zero) (Within free extra zero IsTypeName) (names_within free extra zero) t k rest is.1
assignx_spells free zero zero t k rest is = absurd is

pub expr_spells : (free extra depth : ℕ) → Spells (IsExpr free extra depth) spell_expr
expr_spells free extra depth = sequence_spells (IsAssignx free extra depth) (assignx_spells free extra depth)
