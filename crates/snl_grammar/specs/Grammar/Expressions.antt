-- Expressions, from the tightest level to the loosest. Inner says what an expression without commas
-- is one level deeper, and Names what the name of a type is there.
use Rattle.std.specs.Prelude.{◌≡◌, Bool, true, false, ℕ, zero, suc, List, [], ◌∷◌}
use Rattle.snl_lex.specs.declared.kind.Kind.TheVariants as kind
use Rattle.snl_grammar.specs.declared.operator.Binary.{Binary}
use Rattle.snl_grammar.specs.declared.operator.Assignment.{Assignment}
use Rattle.snl_grammar.specs.declared.operator.Sign.{Sign}
use Rattle.snl_grammar.specs.declared.tree.types.TypeName.{TypeName}
use Rattle.snl_grammar.specs.declared.tree.expression.Prefix.{Prefix}
use Rattle.snl_grammar.specs.declared.tree.expression.Prefix.TheVariants as prefixes
use Rattle.snl_grammar.specs.declared.tree.expression.Suffix.{Suffix}
use Rattle.snl_grammar.specs.declared.tree.expression.Suffix.TheVariants as suffixes
use Rattle.snl_grammar.specs.declared.tree.expression.Expr.{Expr}
use Rattle.snl_grammar.specs.declared.tree.expression.Expr.TheVariants as tree
use Rattle.snl_grammar.specs.Operators.{tier, binary_kind, assignment_kind, sign_kind}
use Rattle.snl_grammar.specs.Tokens.{NumberedKind}
use Rattle.snl_grammar.specs.Grammar.Base.{AreFree, Each, First, Leaf, Within}
use Rattle.snl_grammar.specs.Grammar.Types.{IsTypeName}

abbrev pub Grammar : Type 0 → Type 1
Grammar A = A → List NumberedKind → List NumberedKind → Type 0

-- "," and an element
pub record IsAfterComma {A : Type 0} (R : A → List NumberedKind → List NumberedKind → Type 0) (x : A) (k rest : List NumberedKind) : Type 0 where
  pub mid : List NumberedKind
  pub comma : First kind.Comma k mid
  pub element : R x mid rest

-- one element or more, with commas between
abbrev pub AreCommas : {A : Type 0} → (A → List NumberedKind → List NumberedKind → Type 0) → List A → List NumberedKind → List NumberedKind → Type 0
AreCommas R [] k rest = ⊥
AreCommas R (x ∷ xs) k rest = (mid : List NumberedKind) × R x k mid × Each (IsAfterComma R) xs mid rest

-- texts = TEXT { TEXT }
abbrev pub AreTexts : List ℕ → List NumberedKind → List NumberedKind → Type 0
AreTexts [] k rest = ⊥
AreTexts (n ∷ ns) k rest = (mid : List NumberedKind) × Leaf kind.Text n k mid × Each (Leaf kind.Text) ns mid rest

-- expr = assignx { "," assignx }
pub data IsSequence (Inner : Expr → List NumberedKind → List NumberedKind → Type 0) (t : Expr) (k rest : List NumberedKind) : Type 0 where
  one : Inner t k rest → IsSequence Inner t k rest
  several : (x y : Expr) (ys : List Expr) (mid : List NumberedKind) → t ≡ tree.Sequence x (y ∷ ys) → Inner x k mid → Each (IsAfterComma Inner) (y ∷ ys) mid rest → IsSequence Inner t k rest

-- primary = NAME | INT | FLOAT | CHAR | texts | "(" expr ")" | "sizeof" "(" type stars ")"
pub data IsPrimary (Inner : Expr → List NumberedKind → List NumberedKind → Type 0) (Names : TypeName → List NumberedKind → List NumberedKind → Type 0) (t : Expr) (k rest : List NumberedKind) : Type 0 where
  name : (n : ℕ) → t ≡ tree.Name n → Leaf kind.Name n k rest → IsPrimary Inner Names t k rest
  integer : (n : ℕ) → t ≡ tree.Integer n → Leaf kind.Integer n k rest → IsPrimary Inner Names t k rest
  floating : (n : ℕ) → t ≡ tree.Floating n → Leaf kind.Floating n k rest → IsPrimary Inner Names t k rest
  character : (n : ℕ) → t ≡ tree.Character n → Leaf kind.Character n k rest → IsPrimary Inner Names t k rest
  texts : (ns : List ℕ) → t ≡ tree.Text ns → AreTexts ns k rest → IsPrimary Inner Names t k rest
  group : (x : Expr) (m1 m2 : List NumberedKind) → t ≡ tree.Group x → First kind.OpenParen k m1 → IsSequence Inner x m1 m2 → First kind.CloseParen m2 rest → IsPrimary Inner Names t k rest
  sizeof_type : (x : TypeName) (m1 m2 m3 : List NumberedKind) → t ≡ tree.SizeofType x → First kind.Sizeof k m1 → First kind.OpenParen m1 m2 → Names x m2 m3 → First kind.CloseParen m3 rest → IsPrimary Inner Names t k rest

-- [ assignx { "," assignx } ] ")"
abbrev pub AreArguments : (Expr → List NumberedKind → List NumberedKind → Type 0) → List Expr → List NumberedKind → List NumberedKind → Type 0
AreArguments Inner [] k rest = First kind.CloseParen k rest
AreArguments Inner (x ∷ xs) k rest = (mid : List NumberedKind) × AreCommas Inner (x ∷ xs) k mid × First kind.CloseParen mid rest

pub data IsSuffix (Inner : Expr → List NumberedKind → List NumberedKind → Type 0) (t : Suffix) (k rest : List NumberedKind) : Type 0 where
  subscript : (x : Expr) (m1 m2 : List NumberedKind) → t ≡ suffixes.Subscript x → First kind.OpenBracket k m1 → IsSequence Inner x m1 m2 → First kind.CloseBracket m2 rest → IsSuffix Inner t k rest
  call : (xs : List Expr) (mid : List NumberedKind) → t ≡ suffixes.Call xs → First kind.OpenParen k mid → AreArguments Inner xs mid rest → IsSuffix Inner t k rest
  member : (n : ℕ) (mid : List NumberedKind) → t ≡ suffixes.Member n → First kind.Dot k mid → Leaf kind.Name n mid rest → IsSuffix Inner t k rest
  arrow : (n : ℕ) (mid : List NumberedKind) → t ≡ suffixes.Arrow n → First kind.Arrow k mid → Leaf kind.Name n mid rest → IsSuffix Inner t k rest
  increment : t ≡ suffixes.Increment → First kind.PlusPlus k rest → IsSuffix Inner t k rest
  decrement : t ≡ suffixes.Decrement → First kind.MinusMinus k rest → IsSuffix Inner t k rest

-- primary and what comes after it
pub data IsPostfix (Inner : Expr → List NumberedKind → List NumberedKind → Type 0) (Names : TypeName → List NumberedKind → List NumberedKind → Type 0) (t : Expr) (k rest : List NumberedKind) : Type 0 where
  bare : IsPrimary Inner Names t k rest → IsPostfix Inner Names t k rest
  suffixed : (x : Expr) (s : Suffix) (ss : List Suffix) (mid : List NumberedKind) → t ≡ tree.Postfix x (s ∷ ss) → IsPrimary Inner Names x k mid → Each (IsSuffix Inner) (s ∷ ss) mid rest → IsPostfix Inner Names t k rest

-- An operator before an operand; the cast is "(" type stars ")". The flag says that `sizeof` is
-- directly before it: then it is no cast.
pub data IsOperator (Names : TypeName → List NumberedKind → List NumberedKind → Type 0) (after : Bool) (t : Prefix) (k rest : List NumberedKind) : Type 0 where
  sign : (op : Sign) → t ≡ prefixes.Sign op → First (sign_kind op) k rest → IsOperator Names after t k rest
  sizeof : t ≡ prefixes.Sizeof → First kind.Sizeof k rest → IsOperator Names after t k rest
  cast : (x : TypeName) (m1 m2 : List NumberedKind) → after ≡ false → t ≡ prefixes.Cast x → First kind.OpenParen k m1 → Names x m1 m2 → First kind.CloseParen m2 rest → IsOperator Names after t k rest

abbrev pub is_sizeof : Prefix → Bool
is_sizeof prefixes.Sizeof = true
is_sizeof _ = false

abbrev pub AreOperators : (TypeName → List NumberedKind → List NumberedKind → Type 0) → Bool → List Prefix → List NumberedKind → List NumberedKind → Type 0
AreOperators Names after [] k rest = k ≡ rest
AreOperators Names after (op ∷ ops) k rest = (mid : List NumberedKind) × IsOperator Names after op k mid × AreOperators Names (is_sizeof op) ops mid rest

-- prefix = { pre } postfix
pub data IsPrefix (Inner : Expr → List NumberedKind → List NumberedKind → Type 0) (Names : TypeName → List NumberedKind → List NumberedKind → Type 0) (t : Expr) (k rest : List NumberedKind) : Type 0 where
  bare : IsPostfix Inner Names t k rest → IsPrefix Inner Names t k rest
  prefixed : (op : Prefix) (ops : List Prefix) (x : Expr) (mid : List NumberedKind) → t ≡ tree.Prefixed (op ∷ ops) x → AreOperators Names false (op ∷ ops) k mid → IsPostfix Inner Names x mid rest → IsPrefix Inner Names t k rest

-- an operator of this tier, and an operand
pub record IsLink (n : ℕ) (Operand : Expr → List NumberedKind → List NumberedKind → Type 0) (link : Binary × Expr) (k rest : List NumberedKind) : Type 0 where
  pub mid : List NumberedKind
  pub operator : First (binary_kind link.0) k mid
  pub of_tier : tier link.0 ≡ n
  pub operand : Operand link.1 mid rest

-- operands of the next tighter tier, with operators of this one between
pub data IsChain (n : ℕ) (Operand : Expr → List NumberedKind → List NumberedKind → Type 0) (t : Expr) (k rest : List NumberedKind) : Type 0 where
  alone : Operand t k rest → IsChain n Operand t k rest
  chain : (x : Expr) (link : Binary × Expr) (links : List (Binary × Expr)) (mid : List NumberedKind) → t ≡ tree.Chain x (link ∷ links) → Operand x k mid → Each (IsLink n Operand) (link ∷ links) mid rest → IsChain n Operand t k rest

abbrev pub IsTier : (Expr → List NumberedKind → List NumberedKind → Type 0) → (TypeName → List NumberedKind → List NumberedKind → Type 0) → ℕ → Expr → List NumberedKind → List NumberedKind → Type 0
IsTier Inner Names zero = IsPrefix Inner Names
IsTier Inner Names (suc n) = IsChain (suc n) (IsTier Inner Names n)

-- "?" expr ":" or
pub record IsArm (Inner : Expr → List NumberedKind → List NumberedKind → Type 0) (Operand : Expr → List NumberedKind → List NumberedKind → Type 0) (arm : Expr × Expr) (k rest : List NumberedKind) : Type 0 where
  pub m1 : List NumberedKind
  pub m2 : List NumberedKind
  pub m3 : List NumberedKind
  pub question : First kind.Question k m1
  pub middle : IsSequence Inner arm.0 m1 m2
  pub colon : First kind.Colon m2 m3
  pub operand : Operand arm.1 m3 rest

-- cond = { or "?" expr ":" } or
pub data IsConditional (Inner : Expr → List NumberedKind → List NumberedKind → Type 0) (Names : TypeName → List NumberedKind → List NumberedKind → Type 0) (t : Expr) (k rest : List NumberedKind) : Type 0 where
  alone : IsTier Inner Names 10 t k rest → IsConditional Inner Names t k rest
  choice : (x : Expr) (arm : Expr × Expr) (arms : List (Expr × Expr)) (mid : List NumberedKind) → t ≡ tree.Conditional x (arm ∷ arms) → IsTier Inner Names 10 x k mid → Each (IsArm Inner (IsTier Inner Names 10)) (arm ∷ arms) mid rest → IsConditional Inner Names t k rest

-- prefix op
pub record IsTarget (Inner : Expr → List NumberedKind → List NumberedKind → Type 0) (Names : TypeName → List NumberedKind → List NumberedKind → Type 0) (target : Expr × Assignment) (k rest : List NumberedKind) : Type 0 where
  pub mid : List NumberedKind
  pub operand : IsPrefix Inner Names target.0 k mid
  pub operator : First (assignment_kind target.1) mid rest

-- assignx = { prefix op } cond
pub data IsSingle (Inner : Expr → List NumberedKind → List NumberedKind → Type 0) (Names : TypeName → List NumberedKind → List NumberedKind → Type 0) (t : Expr) (k rest : List NumberedKind) : Type 0 where
  value : IsConditional Inner Names t k rest → IsSingle Inner Names t k rest
  assignment : (target : Expr × Assignment) (targets : List (Expr × Assignment)) (x : Expr) (mid : List NumberedKind) → t ≡ tree.Assigned (target ∷ targets) x → Each (IsTarget Inner Names) (target ∷ targets) k mid → IsConditional Inner Names x mid rest → IsSingle Inner Names t k rest

-- An expression without commas, in so many levels; tokens from the `free`th on may use `extra`
-- more.
abbrev pub IsAssignx : ℕ → ℕ → ℕ → Expr → List NumberedKind → List NumberedKind → Type 0
IsAssignx free extra (suc depth) t k rest = IsSingle (IsAssignx free extra depth) (Within free extra depth IsTypeName) t k rest
IsAssignx free (suc extra) zero t k rest = AreFree free k × IsSingle (IsAssignx free extra zero) (Within free extra zero IsTypeName) t k rest
IsAssignx free zero zero t k rest = ⊥

abbrev pub IsExpr : ℕ → ℕ → ℕ → Expr → List NumberedKind → List NumberedKind → Type 0
IsExpr free extra depth = IsSequence (IsAssignx free extra depth)
