-- Declarations. Inner says what an expression without commas is one level deeper, and Value what
-- comes after `=`.
use Rattle.std.specs.Prelude.{◌≡◌, ℕ, zero, suc, Bool, false, List, [], ◌∷◌, Option}
use Rattle.snl_lex.specs.declared.kind.Kind.TheVariants as kind
use Rattle.snl_grammar.specs.declared.tree.expression.Expr.{Expr}
use Rattle.snl_grammar.specs.declared.tree.declaration.Init.{Init}
use Rattle.snl_grammar.specs.declared.tree.declaration.Init.TheVariants as inits
use Rattle.snl_grammar.specs.declared.tree.declaration.Declarator.{Declarator}
use Rattle.snl_grammar.specs.declared.tree.declaration.Declaration.{Declaration}
use Rattle.snl_grammar.specs.Tokens.{NumberedKind}
use Rattle.snl_grammar.specs.Grammar.Base.{AreFree, Each, First, Leaf, Perhaps}
use Rattle.snl_grammar.specs.Grammar.Types.{Written, IsType, IsPointer}
use Rattle.snl_grammar.specs.Grammar.Expressions.{AreCommas, IsSequence, IsAssignx}

-- "[" [expr] "]"
pub record IsLength (Inner : Expr → List NumberedKind → List NumberedKind → Type 0) (t : Option Expr) (k rest : List NumberedKind) : Type 0 where
  pub m1 : List NumberedKind
  pub m2 : List NumberedKind
  pub opening : First kind.OpenBracket k m1
  pub size : Perhaps (IsSequence Inner) t m1 m2
  pub closing : First kind.CloseBracket m2 rest

-- one element or more, a comma after them or not, and "}"
pub record AreSome {A : Type 0} (R : A → List NumberedKind → List NumberedKind → Type 0) (xs : List A) (trailing : Bool) (k rest : List NumberedKind) : Type 0 where
  pub m1 : List NumberedKind
  pub m2 : List NumberedKind
  pub elements : AreCommas R xs k m1
  pub comma : Written kind.Comma trailing m1 m2
  pub closing : First kind.CloseBrace m2 rest

-- [ element { "," element } [","] ] "}"
abbrev pub AreBraced : {A : Type 0} → (A → List NumberedKind → List NumberedKind → Type 0) → List A → Bool → List NumberedKind → List NumberedKind → Type 0
AreBraced R [] trailing k rest = (trailing ≡ false) × First kind.CloseBrace k rest
AreBraced R (x ∷ xs) trailing k rest = AreSome R (x ∷ xs) trailing k rest

-- init = assignx | "{" [ init { "," init } [","] ] "}"
pub data IsInitOf (Here : Expr → List NumberedKind → List NumberedKind → Type 0) (Inner : Init → List NumberedKind → List NumberedKind → Type 0) (t : Init) (k rest : List NumberedKind) : Type 0 where
  value : (x : Expr) → t ≡ inits.Value x → Here x k rest → IsInitOf Here Inner t k rest
  list : (xs : List Init) (trailing : Bool) (mid : List NumberedKind) → t ≡ inits.List xs trailing → First kind.OpenBrace k mid → AreBraced Inner xs trailing mid rest → IsInitOf Here Inner t k rest

-- The value of a declarator that is in so many levels; tokens from the `free`th on may use `extra`
-- more.
abbrev pub IsInit : ℕ → ℕ → ℕ → Init → List NumberedKind → List NumberedKind → Type 0
IsInit free extra (suc depth) t k rest = IsInitOf (IsAssignx free extra (suc depth)) (IsInit free extra depth) t k rest
IsInit free (suc extra) zero t k rest = AreFree free k × IsInitOf (IsAssignx free (suc extra) zero) (IsInit free extra zero) t k rest
IsInit free zero zero t k rest = ⊥

-- "=" init
pub record IsAfterEqual (Value : Init → List NumberedKind → List NumberedKind → Type 0) (t : Init) (k rest : List NumberedKind) : Type 0 where
  pub mid : List NumberedKind
  pub equal : First kind.Equal k mid
  pub value : Value t mid rest

-- dcl = stars NAME { "[" [expr] "]" } [ "=" init ]
pub record IsDeclarator (Inner : Expr → List NumberedKind → List NumberedKind → Type 0) (Value : Init → List NumberedKind → List NumberedKind → Type 0) (t : Declarator) (k rest : List NumberedKind) : Type 0 where
  pub m1 : List NumberedKind
  pub m2 : List NumberedKind
  pub m3 : List NumberedKind
  pub stars : Each IsPointer t.pointers k m1
  pub name : Leaf kind.Name t.name m1 m2
  pub lengths : Each (IsLength Inner) t.lengths m2 m3
  pub init : Perhaps (IsAfterEqual Value) t.init m3 rest

-- decl = type dcl { "," dcl } ";"
pub record IsDeclarationOf (Inner : Expr → List NumberedKind → List NumberedKind → Type 0) (Value : Init → List NumberedKind → List NumberedKind → Type 0) (t : Declaration) (k rest : List NumberedKind) : Type 0 where
  pub m1 : List NumberedKind
  pub m2 : List NumberedKind
  pub of_type : IsType t.of k m1
  pub declarators : AreCommas (IsDeclarator Inner Value) t.declarators m1 m2
  pub semicolon : First kind.Semicolon m2 rest

-- A declaration that is in so many levels; tokens from the `free`th on may use `extra` more.
abbrev pub IsDeclaration : ℕ → ℕ → ℕ → Declaration → List NumberedKind → List NumberedKind → Type 0
IsDeclaration free extra (suc depth) t k rest = IsDeclarationOf (IsAssignx free extra depth) (IsInit free extra (suc depth)) t k rest
IsDeclaration free (suc extra) zero t k rest = AreFree free k × IsDeclarationOf (IsAssignx free extra zero) (IsInit free (suc extra) zero) t k rest
IsDeclaration free zero zero t k rest = ⊥
