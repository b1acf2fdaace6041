-- How brackets lie in expressions.
use Rattle.std.proofs.Common.{ℕ, zero, suc, Bool, false, List, [], ◌∷◌, refl}
use Rattle.snl_lex.specs.declared.kind.Kind.TheVariants as kind
use Rattle.snl_grammar.specs.declared.operator.Assignment.{Assignment}
use Rattle.snl_grammar.specs.declared.tree.expression.Expr.{Expr}
use Rattle.snl_grammar.specs.declared.tree.expression.Prefix.{Prefix}
use Rattle.snl_grammar.specs.declared.tree.expression.Suffix.{Suffix}
use Rattle.snl_grammar.specs.declared.tree.types.TypeName.{TypeName}
use Rattle.snl_grammar.specs.Operators.{assignment_kind, binary_kind, sign_kind}
use Rattle.snl_grammar.specs.Tokens.{NumberedKind}
use Rattle.snl_grammar.specs.Grammar.Base.{Each, Leaf, Within}
use Rattle.snl_grammar.specs.Grammar.Expressions.{AreCommas, AreOperators, AreTexts, IsAfterComma, IsArm, IsAssignx, IsConditional, IsExpr, IsLink, IsOperator, IsPostfix, IsPrefix, IsPrimary, IsSequence, IsSingle, IsSuffix, IsTarget, IsTier, alone, arrow, assignment, bare, call, cast, chain, character, choice, decrement, floating, group, increment, integer, is_sizeof, member, name, one as one_alone, prefixed, several, sign, sizeof, sizeof_type, subscript, suffixed, texts, value}
use Rattle.snl_grammar.specs.Grammar.Types.{IsTypeName}
use Rattle.snl_item_laws.proofs.Lies.{Holds, Lies, each_lie, held, leaf_lies, lies_then, nothing, one, parens, raised, squares, token}
use Rattle.snl_item_laws.proofs.LiesTypes.{assignment_calm, binary_calm, sign_calm, type_name_lies}

-- ---- lists

module _ {A : Type 0} (inside : Bool) (R : A → List NumberedKind → List NumberedKind → Type 0) where
  pub after_commas : (d : ℕ) → ((x : A) (k rest : List NumberedKind) → R x k rest → Lies inside (suc d) k rest) → (xs : List A) (k rest : List NumberedKind) → Each (IsAfterComma R) xs k rest → Lies inside (suc d) k rest
  after_commas d fits = each_lie inside (IsAfterComma R) (suc d) (λ x k rest h. token kind.Comma refl h.comma (fits x h.mid rest h.element))

  pub commas_lie : (d : ℕ) → ((x : A) (k rest : List NumberedKind) → R x k rest → Lies inside (suc d) k rest) → (xs : List A) (k rest : List NumberedKind) → AreCommas R xs k rest → Lies inside (suc d) k rest
  commas_lie d fits [] k rest h = absurd h
  commas_lie d fits (x ∷ xs) k rest h = lies_then (fits x k h.0 h.1) (after_commas d fits xs h.0 rest h.2)

  -- in a level that there may be not
  pub commas_held : (d : ℕ) → ((x : A) (k rest : List NumberedKind) → R x k rest → Holds inside d k rest) → (xs : List A) (k rest : List NumberedKind) → AreCommas R xs k rest → Holds inside d k rest
  commas_held zero fits [] k rest h = absurd h
  commas_held zero fits (x ∷ xs) k rest h = absurd (fits x k h.0 h.1)
  commas_held (suc d) fits xs k rest h = commas_lie d fits xs k rest h

module _ (inside : Bool) where
  pub texts_lie : (d : ℕ) (ns : List ℕ) (k rest : List NumberedKind) → AreTexts ns k rest → Lies inside (suc d) k rest
  texts_lie d [] k rest h = absurd h
  texts_lie d (n ∷ ns) k rest h =
      lies_then (leaf_lies inside d kind.Text n k h.0 refl h.1) (each_lie inside (Leaf kind.Text) (suc d) (λ m j end l. leaf_lies inside d kind.Text m j end refl l) ns h.0 rest h.2)

  module _ (Inner : Expr → List NumberedKind → List NumberedKind → Type 0) where
    pub sequence_held : (d : ℕ) → ((x : Expr) (k rest : List NumberedKind) → Inner x k rest → Holds inside d k rest) → (x : Expr) (k rest : List NumberedKind) → IsSequence Inner x k rest → Holds inside d k rest
    sequence_held zero fits t k rest (one_alone h) = absurd (fits t k rest h)
    sequence_held zero fits t k rest (several x y ys mid is h hs) = absurd (fits x k mid h)
    sequence_held (suc d) fits t k rest (one_alone h) = fits t k rest h
    sequence_held (suc d) fits t k rest (several x y ys mid is h hs) = lies_then (fits x k mid h) (after_commas inside Inner d fits (y ∷ ys) mid rest hs)

-- ---- one level

module _ (inside : Bool) (d : ℕ) (Inner : Expr → List NumberedKind → List NumberedKind → Type 0) (Names : TypeName → List NumberedKind → List NumberedKind → Type 0)
    (inner : (x : Expr) (k rest : List NumberedKind) → Inner x k rest → Holds inside d k rest) (names : (x : TypeName) (k rest : List NumberedKind) → Names x k rest → Holds inside d k rest) where
  sequence : (x : Expr) (k rest : List NumberedKind) → IsSequence Inner x k rest → Lies inside d k rest
  sequence x k rest h = held inside d k rest (sequence_held inside Inner d inner x k rest h)

  primary : (t : Expr) (k rest : List NumberedKind) → IsPrimary Inner Names t k rest → Lies inside (suc d) k rest
  primary t k rest (name n is h) = leaf_lies inside d kind.Name n k rest refl h
  primary t k rest (integer n is h) = leaf_lies inside d kind.Integer n k rest refl h
  primary t k rest (floating n is h) = leaf_lies inside d kind.Floating n k rest refl h
  primary t k rest (character n is h) = leaf_lies inside d kind.Character n k rest refl h
  primary t k rest (texts ns is h) = texts_lie inside d ns k rest h
  primary t k rest (group x m1 m2 is o h c) = parens o (sequence x m1 m2 h) c (nothing refl)
  primary t k rest (sizeof_type x m1 m2 m3 is w o h c) = token kind.Sizeof refl w (parens o (held inside d m2 m3 (names x m2 m3 h)) c (nothing refl))

  suffix : (t : Suffix) (k rest : List NumberedKind) → IsSuffix Inner t k rest → Lies inside (suc d) k rest
  suffix t k rest (subscript x m1 m2 is o h c) = squares o (sequence x m1 m2 h) c (nothing refl)
  suffix t k rest (call [] mid is o c) = parens o (nothing refl) c (nothing refl)
  suffix t k rest (call (x ∷ xs) mid is o h) = parens o (held inside d mid h.0 (commas_held inside Inner d inner (x ∷ xs) mid h.0 h.1)) h.2 (nothing refl)
  suffix t k rest (member n mid is w h) = token kind.Dot refl w (leaf_lies inside d kind.Name n mid rest refl h)
  suffix t k rest (arrow n mid is w h) = token kind.Arrow refl w (leaf_lies inside d kind.Name n mid rest refl h)
  suffix t k rest (increment is w) = one kind.PlusPlus refl w
  suffix t k rest (decrement is w) = one kind.MinusMinus refl w

  postfix : (t : Expr) (k rest : List NumberedKind) → IsPostfix Inner Names t k rest → Lies inside (suc d) k rest
  postfix t k rest (bare h) = primary t k rest h
  postfix t k rest (suffixed x s ss mid is h hs) = lies_then (primary x k mid h) (each_lie inside (IsSuffix Inner) (suc d) suffix (s ∷ ss) mid rest hs)

  operator : (after : Bool) (t : Prefix) (k rest : List NumberedKind) → IsOperator Names after t k rest → Lies inside (suc d) k rest
  operator after t k rest (sign op is w) = one (sign_kind op) (sign_calm op) w
  operator after t k rest (sizeof is w) = one kind.Sizeof refl w
  operator after t k rest (cast x m1 m2 free is o h c) = parens o (held inside d m1 m2 (names x m1 m2 h)) c (nothing refl)

  operators_lie : (after : Bool) (ops : List Prefix) (k rest : List NumberedKind) → AreOperators Names after ops k rest → Lies inside (suc d) k rest
  operators_lie after [] k rest e = nothing e
  operators_lie after (op ∷ ops) k rest h = lies_then (operator after op k h.0 h.1) (operators_lie (is_sizeof op) ops h.0 rest h.2)

  prefix : (t : Expr) (k rest : List NumberedKind) → IsPrefix Inner Names t k rest → Lies inside (suc d) k rest
  prefix t k rest (bare h) = postfix t k rest h
  prefix t k rest (prefixed op ops x mid is hs h) = lies_then (operators_lie false (op ∷ ops) k mid hs) (postfix x mid rest h)

  tier : (n : ℕ) (t : Expr) (k rest : List NumberedKind) → IsTier Inner Names n t k rest → Lies inside (suc d) k rest
  tier zero t k rest h = prefix t k rest h
  tier (suc n) t k rest (alone h) = tier n t k rest h
  tier (suc n) t k rest (chain x link links mid is h hs) =
      lies_then (tier n x k mid h)
      (each_lie inside (IsLink (suc n) (IsTier Inner Names n)) (suc d) (λ l j end i. token (binary_kind l.0) (binary_calm l.0) i.operator (tier n l.1 i.mid end i.operand)) (link ∷ links) mid rest hs)

  arm : (t : Expr × Expr) (k rest : List NumberedKind) → IsArm Inner (IsTier Inner Names 10) t k rest → Lies inside (suc d) k rest
  arm t k rest h =
      token kind.Question refl h.question (lies_then (raised (sequence t.0 h.m1 h.m2 h.middle)) (token kind.Colon refl h.colon (tier 10 t.1 h.m3 rest h.operand)))

  conditional : (t : Expr) (k rest : List NumberedKind) → IsConditional Inner Names t k rest → Lies inside (suc d) k rest
  conditional t k rest (alone h) = tier 10 t k rest h
  conditional t k rest (choice x a more mid is h hs) = lies_then (tier 10 x k mid h) (each_lie inside (IsArm Inner (IsTier Inner Names 10)) (suc d) arm (a ∷ more) mid rest hs)

  target : (t : Expr × Assignment) (k rest : List NumberedKind) → IsTarget Inner Names t k rest → Lies inside (suc d) k rest
  target t k rest h = lies_then (prefix t.0 k h.mid h.operand) (one (assignment_kind t.1) (assignment_calm t.1) h.operator)

  single : (t : Expr) (k rest : List NumberedKind) → IsSingle Inner Names t k rest → Lies inside (suc d) k rest
  single t k rest (value h) = conditional t k rest h
  single t k rest (assignment a more x mid is hs h) = lies_then (each_lie inside (IsTarget Inner Names) (suc d) target (a ∷ more) k mid hs) (conditional x mid rest h)

-- ---- all levels

within_held : (inside : Bool) (d : ℕ) (t : TypeName) (k rest : List NumberedKind) → Within 0 0 d IsTypeName t k rest → Holds inside d k rest
within_held inside zero t k rest h = absurd h
within_held inside (suc d) t k rest h = type_name_lies inside d t k rest h

pub assignx_held : (inside : Bool) (d : ℕ) (t : Expr) (k rest : List NumberedKind) → IsAssignx 0 0 d t k rest → Holds inside d k rest
assignx_held inside zero t k rest h = absurd h
assignx_held inside (suc d) t k rest h = single inside d (IsAssignx 0 0 d) (Within 0 0 d IsTypeName) (assignx_held inside d) (within_held inside d) t k rest h

pub expr_held : (inside : Bool) (d : ℕ) (t : Expr) (k rest : List NumberedKind) → IsExpr 0 0 d t k rest → Holds inside d k rest
expr_held inside d t k rest h = sequence_held inside (IsAssignx 0 0 d) d (assignx_held inside d) t k rest h
