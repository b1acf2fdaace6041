-- Types, and names of types.
use Rattle.std.specs.Prelude.{◌≡◌, Bool, true, false, List, [], ◌∷◌}
use Rattle.snl_lex.specs.declared.kind.Kind.{Kind}
use Rattle.snl_lex.specs.declared.kind.Kind.TheVariants as kind
use Rattle.snl_grammar.specs.declared.tree.types.Integer.{Integer}
use Rattle.snl_grammar.specs.declared.tree.types.Integer.TheVariants as integers
use Rattle.snl_grammar.specs.declared.tree.types.Base.{Base}
use Rattle.snl_grammar.specs.declared.tree.types.Base.TheVariants as bases
use Rattle.snl_grammar.specs.declared.tree.types.QualifiedType.{QualifiedType}
use Rattle.snl_grammar.specs.declared.tree.types.Pointer.{Pointer}
use Rattle.snl_grammar.specs.declared.tree.types.Pointer.TheVariants as pointers
use Rattle.snl_grammar.specs.declared.tree.types.TypeName.{TypeName}
use Rattle.snl_grammar.specs.Tokens.{NumberedKind}
use Rattle.snl_grammar.specs.Grammar.Base.{Each, First, Leaf, Fixed}

-- the word, where it is written
abbrev pub Written : Kind → Bool → List NumberedKind → List NumberedKind → Type 0
Written x true k rest = First x k rest
Written x false k rest = k ≡ rest

-- the words of an integer base
abbrev pub integer_words : Integer → List Kind
integer_words integers.Char = kind.Char ∷ []
integer_words integers.Short = kind.Short ∷ []
integer_words integers.ShortInt = kind.Short ∷ kind.Int ∷ []
integer_words integers.Int = kind.Int ∷ []
integer_words integers.Long = kind.Long ∷ []
integer_words integers.LongInt = kind.Long ∷ kind.Int ∷ []

abbrev pub IsInteger : Integer → List NumberedKind → List NumberedKind → Type 0
IsInteger t k rest = Fixed (integer_words t) k rest

-- base = "void" | integer | "unsigned" [integer] | "int8_t" | .. | "evflag" | ("enum" | "struct" |
-- "union" | "typename") NAME
abbrev pub IsBase : Base → List NumberedKind → List NumberedKind → Type 0
IsBase bases.Void k rest = First kind.Void k rest
IsBase (bases.Integer i) k rest = IsInteger i k rest
IsBase bases.Unsigned k rest = First kind.Unsigned k rest
IsBase (bases.UnsignedInteger i) k rest = (mid : List NumberedKind) × First kind.Unsigned k mid × IsInteger i mid rest
IsBase bases.Int8 k rest = First kind.Int8 k rest
IsBase bases.Uint8 k rest = First kind.Uint8 k rest
IsBase bases.Int16 k rest = First kind.Int16 k rest
IsBase bases.Uint16 k rest = First kind.Uint16 k rest
IsBase bases.Int32 k rest = First kind.Int32 k rest
IsBase bases.Uint32 k rest = First kind.Uint32 k rest
IsBase bases.Float k rest = First kind.Float k rest
IsBase bases.Double k rest = First kind.Double k rest
IsBase bases.String k rest = First kind.String k rest
IsBase bases.Evflag k rest = First kind.Evflag k rest
IsBase (bases.Enum n) k rest = (mid : List NumberedKind) × First kind.Enum k mid × Leaf kind.Name n mid rest
IsBase (bases.Struct n) k rest = (mid : List NumberedKind) × First kind.Struct k mid × Leaf kind.Name n mid rest
IsBase (bases.Union n) k rest = (mid : List NumberedKind) × First kind.Union k mid × Leaf kind.Name n mid rest
IsBase (bases.Typename n) k rest = (mid : List NumberedKind) × First kind.Typename k mid × Leaf kind.Name n mid rest

-- type = ["const"] base ["const"]
pub record IsType (t : QualifiedType) (k rest : List NumberedKind) : Type 0 where
  pub m1 : List NumberedKind
  pub m2 : List NumberedKind
  pub before : Written kind.Const t.leading_const k m1
  pub base : IsBase t.base m1 m2
  pub after : Written kind.Const t.trailing_const m2 rest

-- a star = "*" ["const"]
abbrev pub IsPointer : Pointer → List NumberedKind → List NumberedKind → Type 0
IsPointer pointers.Plain k rest = First kind.Star k rest
IsPointer pointers.Const k rest = (mid : List NumberedKind) × First kind.Star k mid × First kind.Const mid rest

-- type stars
pub record IsTypeName (t : TypeName) (k rest : List NumberedKind) : Type 0 where
  pub mid : List NumberedKind
  pub of_type : IsType t.of k mid
  pub stars : Each IsPointer t.pointers mid rest
