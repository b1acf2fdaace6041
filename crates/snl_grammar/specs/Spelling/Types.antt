-- What types, and names of types, spell.
use Rattle.std.specs.Prelude.{List, ◌++◌, map}
use Rattle.snl_lex.specs.declared.kind.Kind.TheVariants as kind
use Rattle.snl_grammar.specs.declared.tree.types.Integer.{Integer}
use Rattle.snl_grammar.specs.declared.tree.types.Integer.TheVariants as integers
use Rattle.snl_grammar.specs.declared.tree.types.Base.{Base}
use Rattle.snl_grammar.specs.declared.tree.types.Base.TheVariants as bases
use Rattle.snl_grammar.specs.declared.tree.types.QualifiedType.{QualifiedType}
use Rattle.snl_grammar.specs.declared.tree.types.Pointer.{Pointer}
use Rattle.snl_grammar.specs.declared.tree.types.Pointer.TheVariants as pointers
use Rattle.snl_grammar.specs.declared.tree.types.TypeName.{TypeName}
use Rattle.snl_grammar.specs.Spelling.Base.{Spelled, word, leaf, written, joined}

abbrev pub spell_integer : Integer → List Spelled
spell_integer integers.Char = word kind.Char
spell_integer integers.Short = word kind.Short
spell_integer integers.ShortInt = word kind.Short ++ word kind.Int
spell_integer integers.Int = word kind.Int
spell_integer integers.Long = word kind.Long
spell_integer integers.LongInt = word kind.Long ++ word kind.Int

abbrev pub spell_base : Base → List Spelled
spell_base bases.Void = word kind.Void
spell_base (bases.Integer i) = spell_integer i
spell_base bases.Unsigned = word kind.Unsigned
spell_base (bases.UnsignedInteger i) = word kind.Unsigned ++ spell_integer i
spell_base bases.Int8 = word kind.Int8
spell_base bases.Uint8 = word kind.Uint8
spell_base bases.Int16 = word kind.Int16
spell_base bases.Uint16 = word kind.Uint16
spell_base bases.Int32 = word kind.Int32
spell_base bases.Uint32 = word kind.Uint32
spell_base bases.Float = word kind.Float
spell_base bases.Double = word kind.Double
spell_base bases.String = word kind.String
spell_base bases.Evflag = word kind.Evflag
spell_base (bases.Enum name) = word kind.Enum ++ leaf kind.Name name
spell_base (bases.Struct name) = word kind.Struct ++ leaf kind.Name name
spell_base (bases.Union name) = word kind.Union ++ leaf kind.Name name
spell_base (bases.Typename name) = word kind.Typename ++ leaf kind.Name name

-- type = ["const"] base ["const"]
abbrev pub spell_type : QualifiedType → List Spelled
spell_type t = written kind.Const t.leading_const ++ spell_base t.base ++ written kind.Const t.trailing_const

-- a star = "*" ["const"]
abbrev pub spell_pointer : Pointer → List Spelled
spell_pointer pointers.Plain = word kind.Star
spell_pointer pointers.Const = word kind.Star ++ word kind.Const

abbrev pub spell_stars : List Pointer → List Spelled
spell_stars stars = joined (map spell_pointer stars)

-- type stars
abbrev pub spell_type_name : TypeName → List Spelled
spell_type_name t = spell_type t.of ++ spell_stars t.pointers
