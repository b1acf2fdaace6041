-- Types, and names of types.
use Rattle.std.specs.Prelude.{ℕ, Bool, true, false, List, [], Option, Some, None, if◌then◌else◌}
use Rattle.snl_lex.specs.declared.kind.Kind.{Kind}
use Rattle.snl_lex.specs.declared.kind.Kind.TheVariants as kind
use Rattle.snl_grammar.specs.declared.tree.types.Integer.{Integer}
use Rattle.snl_grammar.specs.declared.tree.types.Integer.TheVariants as integers
use Rattle.snl_grammar.specs.declared.tree.types.Base.{Base}
use Rattle.snl_grammar.specs.declared.tree.types.Base.TheVariants as bases
use Rattle.snl_grammar.specs.declared.tree.types.QualifiedType.{QualifiedType}
use Rattle.snl_grammar.specs.declared.tree.types.Pointer.{Pointer}
use Rattle.snl_grammar.specs.declared.tree.types.Pointer.TheVariants as pointers
use Rattle.snl_grammar.specs.declared.tree.types.TypeName.{TypeName}
use Rattle.snl_grammar.specs.Steps.{Reader, ◌>>=◌, ◌>>◌, pure, refuse, kind_at, expect, accept, word, many}

abbrev pub short : Bool → Integer
short b = if b then integers.ShortInt else integers.Short

abbrev pub long : Bool → Integer
long b = if b then integers.LongInt else integers.Long

unfoldable pub short_integer : Reader Integer
short_integer = do
  expect kind.Short
  b ← accept kind.Int
  pure (short b)

unfoldable pub long_integer : Reader Integer
long_integer = do
  expect kind.Long
  b ← accept kind.Int
  pure (long b)

unfoldable pub integer_by : Option Kind → Reader Integer
integer_by (Some kind.Char) = word kind.Char integers.Char
integer_by (Some kind.Short) = short_integer
integer_by (Some kind.Int) = word kind.Int integers.Int
integer_by (Some kind.Long) = long_integer
integer_by _ = refuse

unfoldable pub integer : Reader Integer
integer = λ k. integer_by (kind_at k) k

-- the kinds that begin an integer base
abbrev pub begins_integer : Option Kind → Bool
begins_integer (Some kind.Char) = true
begins_integer (Some kind.Short) = true
begins_integer (Some kind.Int) = true
begins_integer (Some kind.Long) = true
begins_integer _ = false

unfoldable pub plain_integer : Reader Base
plain_integer = do
  i ← integer
  pure (bases.Integer i)

abbrev pub unsigned_by : Bool → Reader Base
unsigned_by true = do
  i ← integer
  pure (bases.UnsignedInteger i)
unsigned_by false = pure bases.Unsigned

unfoldable pub unsigned_rest : Reader Base
unsigned_rest = λ k. unsigned_by (begins_integer (kind_at k)) k

unfoldable pub unsigned : Reader Base
unsigned = expect kind.Unsigned >> unsigned_rest

-- `enum`, `struct`, `union` or `typename`, and a name
unfoldable pub named : Kind → (ℕ → Base) → Reader Base
named x make = do
  expect x
  n ← expect kind.Name
  pure (make n)

unfoldable pub base_by : Option Kind → Reader Base
base_by (Some kind.Void) = word kind.Void bases.Void
base_by (Some kind.Char) = plain_integer
base_by (Some kind.Short) = plain_integer
base_by (Some kind.Int) = plain_integer
base_by (Some kind.Long) = plain_integer
base_by (Some kind.Unsigned) = unsigned
base_by (Some kind.Int8) = word kind.Int8 bases.Int8
base_by (Some kind.Uint8) = word kind.Uint8 bases.Uint8
base_by (Some kind.Int16) = word kind.Int16 bases.Int16
base_by (Some kind.Uint16) = word kind.Uint16 bases.Uint16
base_by (Some kind.Int32) = word kind.Int32 bases.Int32
base_by (Some kind.Uint32) = word kind.Uint32 bases.Uint32
base_by (Some kind.Float) = word kind.Float bases.Float
base_by (Some kind.Double) = word kind.Double bases.Double
base_by (Some kind.String) = word kind.String bases.String
base_by (Some kind.Evflag) = word kind.Evflag bases.Evflag
base_by (Some kind.Enum) = named kind.Enum bases.Enum
base_by (Some kind.Struct) = named kind.Struct bases.Struct
base_by (Some kind.Union) = named kind.Union bases.Union
base_by (Some kind.Typename) = named kind.Typename bases.Typename
base_by _ = refuse

unfoldable pub base : Reader Base
base = λ k. base_by (kind_at k) k

unfoldable pub type_of : Reader QualifiedType
type_of = do
  before ← accept kind.Const
  b ← base
  after ← accept kind.Const
  pure (record { leading_const = before; base = b; trailing_const = after })

abbrev pub pointer_of : Bool → Pointer
pointer_of b = if b then pointers.Const else pointers.Plain

abbrev pub pointer_by : Option Kind → Reader (Option Pointer)
pointer_by (Some kind.Star) = do
  expect kind.Star
  b ← accept kind.Const
  pure (Some (pointer_of b))
pointer_by _ = pure None

unfoldable pub next_pointer : Reader (Option Pointer)
next_pointer = λ k. pointer_by (kind_at k) k

abbrev pub stars : Reader (List Pointer)
stars = many next_pointer []

unfoldable pub type_name : Reader TypeName
type_name = do
  t ← type_of
  ps ← stars
  pure (record { of = t; pointers = ps })

-- the kinds that begin a type
abbrev pub begins_type : Option Kind → Bool
begins_type (Some kind.Const) = true
begins_type (Some kind.Void) = true
begins_type (Some kind.Char) = true
begins_type (Some kind.Short) = true
begins_type (Some kind.Int) = true
begins_type (Some kind.Long) = true
begins_type (Some kind.Unsigned) = true
begins_type (Some kind.Int8) = true
begins_type (Some kind.Uint8) = true
begins_type (Some kind.Int16) = true
begins_type (Some kind.Uint16) = true
begins_type (Some kind.Int32) = true
begins_type (Some kind.Uint32) = true
begins_type (Some kind.Float) = true
begins_type (Some kind.Double) = true
begins_type (Some kind.String) = true
begins_type (Some kind.Evflag) = true
begins_type (Some kind.Enum) = true
begins_type (Some kind.Struct) = true
begins_type (Some kind.Union) = true
begins_type (Some kind.Typename) = true
begins_type _ = false
