-- Types, and names of types, spell their tokens.
use Rattle.snl_grammar.specs.declared.tree.types.Integer.TheVariants as integers
use Rattle.snl_grammar.specs.declared.tree.types.Base.TheVariants as bases
use Rattle.snl_grammar.specs.declared.tree.types.Pointer.TheVariants as pointers
use Rattle.snl_lex.specs.declared.kind.Kind.TheVariants as kind
use Rattle.snl_grammar.specs.Grammar.Base.{Each}
use Rattle.snl_grammar.specs.Grammar.Types.{IsInteger, IsBase, IsType, IsPointer, IsTypeName}
use Rattle.snl_grammar.specs.Spelling.Types.{spell_integer, spell_base, spell_type, spell_pointer, spell_stars, spell_type_name}
use Rattle.snl_grammar.proofs.Covers.{Spells, nothing_covers, word_covers, leaf_covers, ◌and◌, written_spells, each_spells}

integer_spells : Spells IsInteger spell_integer
integer_spells integers.Char k rest f = word_covers f.1 and nothing_covers f.2
integer_spells integers.Short k rest f = word_covers f.1 and nothing_covers f.2
integer_spells integers.ShortInt k rest f = word_covers f.1 and word_covers f.2.1 and nothing_covers f.2.2
integer_spells integers.Int k rest f = word_covers f.1 and nothing_covers f.2
integer_spells integers.Long k rest f = word_covers f.1 and nothing_covers f.2
integer_spells integers.LongInt k rest f = word_covers f.1 and word_covers f.2.1 and nothing_covers f.2.2

base_spells : Spells IsBase spell_base
base_spells bases.Void k rest f = word_covers f
base_spells (bases.Integer i) k rest is = integer_spells i k rest is
base_spells bases.Unsigned k rest f = word_covers f
base_spells (bases.UnsignedInteger i) k rest is = word_covers is.1 and integer_spells i is.0 rest is.2
base_spells bases.Int8 k rest f = word_covers f
base_spells bases.Uint8 k rest f = word_covers f
base_spells bases.Int16 k rest f = word_covers f
base_spells bases.Uint16 k rest f = word_covers f
base_spells bases.Int32 k rest f = word_covers f
base_spells bases.Uint32 k rest f = word_covers f
base_spells bases.Float k rest f = word_covers f
base_spells bases.Double k rest f = word_covers f
base_spells bases.String k rest f = word_covers f
base_spells bases.Evflag k rest f = word_covers f
base_spells (bases.Enum n) k rest is = word_covers is.1 and leaf_covers is.2
base_spells (bases.Struct n) k rest is = word_covers is.1 and leaf_covers is.2
base_spells (bases.Union n) k rest is = word_covers is.1 and leaf_covers is.2
base_spells (bases.Typename n) k rest is = word_covers is.1 and leaf_covers is.2

pub type_spells : Spells IsType spell_type
type_spells t k rest is = written_spells kind.Const t.leading_const k is.m1 is.before and base_spells t.base is.m1 is.m2 is.base and written_spells kind.Const t.trailing_const is.m2 rest is.after

pointer_spells : Spells IsPointer spell_pointer
pointer_spells pointers.Plain k rest f = word_covers f
pointer_spells pointers.Const k rest is = word_covers is.1 and word_covers is.2

pub stars_spell : Spells (Each IsPointer) spell_stars
stars_spell = each_spells IsPointer spell_pointer pointer_spells

pub type_name_spells : Spells IsTypeName spell_type_name
type_name_spells t k rest is = type_spells t.of k is.mid is.of_type and stars_spell t.pointers is.mid rest is.stars
