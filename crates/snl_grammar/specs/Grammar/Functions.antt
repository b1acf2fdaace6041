-- Functions, structs, and the items that begin with a type.
use Rattle.std.specs.Prelude.{◌≡◌, ℕ, zero, suc, List, [], ◌∷◌, Option, Some, None}
use Rattle.snl_lex.specs.declared.kind.Kind.TheVariants as kind
use Rattle.snl_grammar.specs.declared.tree.expression.Expr.{Expr}
use Rattle.snl_grammar.specs.declared.tree.declaration.Declaration.{Declaration}
use Rattle.snl_grammar.specs.declared.tree.declaration.Parameter.{Parameter}
use Rattle.snl_grammar.specs.declared.tree.statement.Member.{Member}
use Rattle.snl_grammar.specs.declared.tree.item.Function.{Function}
use Rattle.snl_grammar.specs.declared.tree.item.StructMember.{StructMember}
use Rattle.snl_grammar.specs.declared.tree.item.StructMember.TheVariants as members
use Rattle.snl_grammar.specs.declared.tree.item.Item.{Item}
use Rattle.snl_grammar.specs.declared.tree.item.Item.TheVariants as items
use Rattle.snl_grammar.specs.Tokens.{NumberedKind}
use Rattle.snl_grammar.specs.Grammar.Base.{AreFree, Each, First, Leaf, Perhaps}
use Rattle.snl_grammar.specs.Grammar.Types.{IsType, IsPointer}
use Rattle.snl_grammar.specs.Grammar.Expressions.{AreCommas, IsAssignx}
use Rattle.snl_grammar.specs.Grammar.Declarations.{IsLength}

-- param = type stars [NAME] { "[" [expr] "]" }; Inner says what an expression without commas is one
-- level deeper
pub record IsParameterOf (Inner : Expr → List NumberedKind → List NumberedKind → Type 0) (t : Parameter) (k rest : List NumberedKind) : Type 0 where
  pub m1 : List NumberedKind
  pub m2 : List NumberedKind
  pub m3 : List NumberedKind
  pub of_type : IsType t.of k m1
  pub stars : Each IsPointer t.pointers m1 m2
  pub name : Perhaps (Leaf kind.Name) t.name m2 m3
  pub lengths : Each (IsLength Inner) t.lengths m3 rest

-- A parameter that is in so many levels; tokens from the `free`th on may use `extra` more.
abbrev pub IsParameter : ℕ → ℕ → ℕ → Parameter → List NumberedKind → List NumberedKind → Type 0
IsParameter free extra (suc depth) t k rest = IsParameterOf (IsAssignx free extra depth) t k rest
IsParameter free (suc extra) zero t k rest = AreFree free k × IsParameterOf (IsAssignx free extra zero) t k rest
IsParameter free zero zero t k rest = ⊥

-- [ param { "," param } ] ")"
abbrev pub AreParameters : (Parameter → List NumberedKind → List NumberedKind → Type 0) → List Parameter → List NumberedKind → List NumberedKind → Type 0
AreParameters Inner [] k rest = First kind.CloseParen k rest
AreParameters Inner (x ∷ xs) k rest = (mid : List NumberedKind) × AreCommas Inner (x ∷ xs) k mid × First kind.CloseParen mid rest

-- block | ";"
abbrev pub IsBody : (List Member → List NumberedKind → List NumberedKind → Type 0) → Option (List Member) → List NumberedKind → List NumberedKind → Type 0
IsBody Block None k rest = First kind.Semicolon k rest
IsBody Block (Some b) k rest = Block b k rest

-- function = type stars NAME "(" [ param { "," param } ] ")" ( block | ";" )
pub record IsFunction (Inner : Parameter → List NumberedKind → List NumberedKind → Type 0) (Block : List Member → List NumberedKind → List NumberedKind → Type 0) (t : Function) (k rest : List NumberedKind) : Type 0 where
  pub m1 : List NumberedKind
  pub m2 : List NumberedKind
  pub m3 : List NumberedKind
  pub m4 : List NumberedKind
  pub m5 : List NumberedKind
  pub of_type : IsType t.of k m1
  pub stars : Each IsPointer t.pointers m1 m2
  pub name : Leaf kind.Name t.name m2 m3
  pub opening : First kind.OpenParen m3 m4
  pub parameters : AreParameters Inner t.parameters m4 m5
  pub body : IsBody Block t.body m5 rest

-- decl | CCODE
pub data IsStructMember (Inner : Declaration → List NumberedKind → List NumberedKind → Type 0) (t : StructMember) (k rest : List NumberedKind) : Type 0 where
  declaration : (d : Declaration) → t ≡ members.Declaration d → Inner d k rest → IsStructMember Inner t k rest
  c_block : (n : ℕ) → t ≡ members.CBlock n → Leaf kind.CCode n k rest → IsStructMember Inner t k rest

-- struct = "struct" NAME "{" { decl | CCODE } "}" ";"
pub record IsStruct (Inner : Declaration → List NumberedKind → List NumberedKind → Type 0) (n : ℕ) (xs : List StructMember) (k rest : List NumberedKind) : Type 0 where
  pub m1 : List NumberedKind
  pub m2 : List NumberedKind
  pub m3 : List NumberedKind
  pub m4 : List NumberedKind
  pub m5 : List NumberedKind
  pub word : First kind.Struct k m1
  pub name : Leaf kind.Name n m1 m2
  pub opening : First kind.OpenBrace m2 m3
  pub members : Each (IsStructMember Inner) xs m3 m4
  pub closing : First kind.CloseBrace m4 m5
  pub semicolon : First kind.Semicolon m5 rest

-- An item that begins with a type. Here says what a declaration is at an item's own level, and the
-- others what is within its brackets.
pub data IsTypedItem (Here Inner : Declaration → List NumberedKind → List NumberedKind → Type 0) (Param : Parameter → List NumberedKind → List NumberedKind → Type 0) (Block : List Member → List NumberedKind → List NumberedKind → Type 0) (t : Item) (k rest : List NumberedKind) : Type 0 where
  definition : (d : Declaration) → t ≡ items.Definition d → Here d k rest → IsTypedItem Here Inner Param Block t k rest
  function : (f : Function) → t ≡ items.Function f → IsFunction Param Block f k rest → IsTypedItem Here Inner Param Block t k rest
  struct_definition : (n : ℕ) (xs : List StructMember) → t ≡ items.StructDef n xs → IsStruct Inner n xs k rest → IsTypedItem Here Inner Param Block t k rest
