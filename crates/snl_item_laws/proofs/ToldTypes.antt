-- Nothing is found in types and in what has no names.
use Rattle.std.proofs.Common.{◌≡◌, ℕ, Bool, true, false, List, [], map, Some, None, refl}
use Rattle.snl_lex.specs.declared.kind.Kind.{Kind}
use Rattle.snl_lex.specs.declared.kind.Kind.TheVariants as kind
use Rattle.snl_grammar.specs.declared.operator.Assignment.{Assignment}
use Rattle.snl_grammar.specs.declared.operator.Assignment.TheVariants as assignments
use Rattle.snl_grammar.specs.declared.operator.Binary.{Binary}
use Rattle.snl_grammar.specs.declared.operator.Binary.TheVariants as binaries
use Rattle.snl_grammar.specs.declared.operator.Sign.{Sign}
use Rattle.snl_grammar.specs.declared.operator.Sign.TheVariants as signs
use Rattle.snl_grammar.specs.declared.tree.expression.Prefix.{Prefix}
use Rattle.snl_grammar.specs.declared.tree.expression.Prefix.TheVariants as prefixes
use Rattle.snl_grammar.specs.declared.tree.types.Base.{Base}
use Rattle.snl_grammar.specs.declared.tree.types.Base.TheVariants as bases
use Rattle.snl_grammar.specs.declared.tree.types.Integer.{Integer}
use Rattle.snl_grammar.specs.declared.tree.types.Integer.TheVariants as integers
use Rattle.snl_grammar.specs.declared.tree.types.Pointer.{Pointer}
use Rattle.snl_grammar.specs.declared.tree.types.Pointer.TheVariants as pointers
use Rattle.snl_grammar.specs.declared.tree.types.QualifiedType.{QualifiedType}
use Rattle.snl_grammar.specs.declared.tree.types.TypeName.{TypeName}
use Rattle.snl_grammar.specs.Operators.{assignment_kind, binary_kind, sign_kind}
use Rattle.snl_grammar.specs.Spelling.Base.{joined, leaf, word, written}
use Rattle.snl_grammar.specs.Spelling.Expressions.{spell_prefix, spell_texts}
use Rattle.snl_grammar.specs.Spelling.Types.{spell_base, spell_integer, spell_pointer, spell_stars, spell_type, spell_type_name}
use Rattle.snl_item_laws.proofs.Told.{AreTold, Case, Sort, hidden, is_quiet, none, quiet, silent_joined, told_after, told_in_parens}

pub binary_quiet : (op : Binary) → is_quiet (binary_kind op) ≡ true
binary_quiet binaries.Or = refl
binary_quiet binaries.And = refl
binary_quiet binaries.BitOr = refl
binary_quiet binaries.BitXor = refl
binary_quiet binaries.BitAnd = refl
binary_quiet binaries.Equal = refl
binary_quiet binaries.NotEqual = refl
binary_quiet binaries.Less = refl
binary_quiet binaries.Greater = refl
binary_quiet binaries.LessEqual = refl
binary_quiet binaries.GreaterEqual = refl
binary_quiet binaries.ShiftLeft = refl
binary_quiet binaries.ShiftRight = refl
binary_quiet binaries.Add = refl
binary_quiet binaries.Subtract = refl
binary_quiet binaries.Multiply = refl
binary_quiet binaries.Divide = refl
binary_quiet binaries.Remainder = refl

pub assignment_quiet : (op : Assignment) → is_quiet (assignment_kind op) ≡ true
assignment_quiet assignments.Plain = refl
assignment_quiet assignments.Add = refl
assignment_quiet assignments.Subtract = refl
assignment_quiet assignments.Multiply = refl
assignment_quiet assignments.Divide = refl
assignment_quiet assignments.Remainder = refl
assignment_quiet assignments.BitAnd = refl
assignment_quiet assignments.BitOr = refl
assignment_quiet assignments.BitXor = refl
assignment_quiet assignments.ShiftLeft = refl
assignment_quiet assignments.ShiftRight = refl

sign_quiet : (op : Sign) → is_quiet (sign_kind op) ≡ true
sign_quiet signs.Plus = refl
sign_quiet signs.Minus = refl
sign_quiet signs.Not = refl
sign_quiet signs.Complement = refl
sign_quiet signs.Dereference = refl
sign_quiet signs.Address = refl
sign_quiet signs.Increment = refl
sign_quiet signs.Decrement = refl

module _ {A : Type 0} {at : A → ℕ} {sort : A → Sort} {has : Case → Type 0} where
  pub silent_word : (k : Kind) → is_quiet k ≡ true → AreTold at sort has [] (word k)
  silent_word k q = quiet k None q none

  pub silent_leaf : (k : Kind) (n : ℕ) → is_quiet k ≡ true → AreTold at sort has [] (leaf k n)
  silent_leaf k n q = quiet k (Some n) q none

  pub silent_written : (k : Kind) (b : Bool) → is_quiet k ≡ true → AreTold at sort has [] (written k b)
  silent_written k true q = silent_word k q
  silent_written k false q = none

  silent_integer : (i : Integer) → AreTold at sort has [] (spell_integer i)
  silent_integer integers.Char = silent_word kind.Char refl
  silent_integer integers.Short = silent_word kind.Short refl
  silent_integer integers.ShortInt = quiet kind.Short None refl (silent_word kind.Int refl)
  silent_integer integers.Int = silent_word kind.Int refl
  silent_integer integers.Long = silent_word kind.Long refl
  silent_integer integers.LongInt = quiet kind.Long None refl (silent_word kind.Int refl)

  silent_base : (b : Base) → AreTold at sort has [] (spell_base b)
  silent_base bases.Void = silent_word kind.Void refl
  silent_base (bases.Integer i) = silent_integer i
  silent_base bases.Unsigned = silent_word kind.Unsigned refl
  silent_base (bases.UnsignedInteger i) = quiet kind.Unsigned None refl (silent_integer i)
  silent_base bases.Int8 = silent_word kind.Int8 refl
  silent_base bases.Uint8 = silent_word kind.Uint8 refl
  silent_base bases.Int16 = silent_word kind.Int16 refl
  silent_base bases.Uint16 = silent_word kind.Uint16 refl
  silent_base bases.Int32 = silent_word kind.Int32 refl
  silent_base bases.Uint32 = silent_word kind.Uint32 refl
  silent_base bases.Float = silent_word kind.Float refl
  silent_base bases.Double = silent_word kind.Double refl
  silent_base bases.String = silent_word kind.String refl
  silent_base bases.Evflag = silent_word kind.Evflag refl
  silent_base (bases.Enum n) = hidden kind.Enum n refl refl refl refl none
  silent_base (bases.Struct n) = hidden kind.Struct n refl refl refl refl none
  silent_base (bases.Union n) = hidden kind.Union n refl refl refl refl none
  silent_base (bases.Typename n) = hidden kind.Typename n refl refl refl refl none

  pub silent_type : (t : QualifiedType) → AreTold at sort has [] (spell_type t)
  silent_type t = told_after (told_after (silent_written kind.Const t.leading_const refl) (silent_base t.base)) (silent_written kind.Const t.trailing_const refl)

  silent_pointer : (p : Pointer) → AreTold at sort has [] (spell_pointer p)
  silent_pointer pointers.Plain = silent_word kind.Star refl
  silent_pointer pointers.Const = quiet kind.Star None refl (silent_word kind.Const refl)

  pub silent_stars : (ps : List Pointer) → AreTold at sort has [] (spell_stars ps)
  silent_stars ps = silent_joined spell_pointer silent_pointer ps

  pub silent_type_name : (t : TypeName) → AreTold at sort has [] (spell_type_name t)
  silent_type_name t = told_after (silent_type t.of) (silent_stars t.pointers)

  pub silent_texts : (ns : List ℕ) → AreTold at sort has [] (spell_texts ns)
  silent_texts ns = silent_joined (leaf kind.Text) (λ n. silent_leaf kind.Text n refl) ns

  silent_prefix : (p : Prefix) → AreTold at sort has [] (spell_prefix p)
  silent_prefix (prefixes.Sign op) = silent_word (sign_kind op) (sign_quiet op)
  silent_prefix prefixes.Sizeof = silent_word kind.Sizeof refl
  silent_prefix (prefixes.Cast t) = told_in_parens (silent_type_name t)

  pub silent_prefixes : (ps : List Prefix) → AreTold at sort has [] (joined (map spell_prefix ps))
  silent_prefixes ps = silent_joined spell_prefix silent_prefix ps
