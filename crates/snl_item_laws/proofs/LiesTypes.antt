-- How brackets lie in types and operators: there are none.
use Rattle.std.proofs.Common.{◌≡◌, ℕ, suc, Bool, true, List, refl}
use Rattle.snl_lex.specs.declared.kind.Kind.TheVariants as kind
use Rattle.snl_grammar.specs.declared.operator.Assignment.{Assignment}
use Rattle.snl_grammar.specs.declared.operator.Assignment.TheVariants as assignments
use Rattle.snl_grammar.specs.declared.operator.Binary.{Binary}
use Rattle.snl_grammar.specs.declared.operator.Binary.TheVariants as binaries
use Rattle.snl_grammar.specs.declared.operator.Sign.{Sign}
use Rattle.snl_grammar.specs.declared.operator.Sign.TheVariants as signs
use Rattle.snl_grammar.specs.declared.tree.types.Base.{Base}
use Rattle.snl_grammar.specs.declared.tree.types.Base.TheVariants as bases
use Rattle.snl_grammar.specs.declared.tree.types.Integer.{Integer}
use Rattle.snl_grammar.specs.declared.tree.types.Integer.TheVariants as integers
use Rattle.snl_grammar.specs.declared.tree.types.Pointer.{Pointer}
use Rattle.snl_grammar.specs.declared.tree.types.Pointer.TheVariants as pointers
use Rattle.snl_grammar.specs.declared.tree.types.QualifiedType.{QualifiedType}
use Rattle.snl_grammar.specs.declared.tree.types.TypeName.{TypeName}
use Rattle.snl_grammar.specs.Operators.{assignment_kind, binary_kind, sign_kind}
use Rattle.snl_grammar.specs.Tokens.{NumberedKind}
use Rattle.snl_grammar.specs.Grammar.Base.{Each}
use Rattle.snl_grammar.specs.Grammar.Types.{IsBase, IsInteger, IsPointer, IsType, IsTypeName, integer_words}
use Rattle.snl_item_laws.proofs.Lies.{AreCalm, Lies, each_lie, fixed_lie, is_calm, leaf_lies, lies_then, one, token, written_lies}

pub binary_calm : (op : Binary) → is_calm (binary_kind op) ≡ true
binary_calm binaries.Or = refl
binary_calm binaries.And = refl
binary_calm binaries.BitOr = refl
binary_calm binaries.BitXor = refl
binary_calm binaries.BitAnd = refl
binary_calm binaries.Equal = refl
binary_calm binaries.NotEqual = refl
binary_calm binaries.Less = refl
binary_calm binaries.Greater = refl
binary_calm binaries.LessEqual = refl
binary_calm binaries.GreaterEqual = refl
binary_calm binaries.ShiftLeft = refl
binary_calm binaries.ShiftRight = refl
binary_calm binaries.Add = refl
binary_calm binaries.Subtract = refl
binary_calm binaries.Multiply = refl
binary_calm binaries.Divide = refl
binary_calm binaries.Remainder = refl

pub assignment_calm : (op : Assignment) → is_calm (assignment_kind op) ≡ true
assignment_calm assignments.Plain = refl
assignment_calm assignments.Add = refl
assignment_calm assignments.Subtract = refl
assignment_calm assignments.Multiply = refl
assignment_calm assignments.Divide = refl
assignment_calm assignments.Remainder = refl
assignment_calm assignments.BitAnd = refl
assignment_calm assignments.BitOr = refl
assignment_calm assignments.BitXor = refl
assignment_calm assignments.ShiftLeft = refl
assignment_calm assignments.ShiftRight = refl

pub sign_calm : (op : Sign) → is_calm (sign_kind op) ≡ true
sign_calm signs.Plus = refl
sign_calm signs.Minus = refl
sign_calm signs.Not = refl
sign_calm signs.Complement = refl
sign_calm signs.Dereference = refl
sign_calm signs.Address = refl
sign_calm signs.Increment = refl
sign_calm signs.Decrement = refl

calm_integer : (i : Integer) → AreCalm (integer_words i)
calm_integer integers.Char = (refl, tt)
calm_integer integers.Short = (refl, tt)
calm_integer integers.ShortInt = (refl, (refl, tt))
calm_integer integers.Int = (refl, tt)
calm_integer integers.Long = (refl, tt)
calm_integer integers.LongInt = (refl, (refl, tt))

module _ (inside : Bool) (d : ℕ) where
  integer_lies : (i : Integer) (k rest : List NumberedKind) → IsInteger i k rest → Lies inside (suc d) k rest
  integer_lies i k rest h = fixed_lie inside d (integer_words i) k rest (calm_integer i) h

  base_lies : (b : Base) (k rest : List NumberedKind) → IsBase b k rest → Lies inside (suc d) k rest
  base_lies bases.Void k rest h = one kind.Void refl h
  base_lies (bases.Integer i) k rest h = integer_lies i k rest h
  base_lies bases.Unsigned k rest h = one kind.Unsigned refl h
  base_lies (bases.UnsignedInteger i) k rest h = token kind.Unsigned refl h.1 (integer_lies i h.0 rest h.2)
  base_lies bases.Int8 k rest h = one kind.Int8 refl h
  base_lies bases.Uint8 k rest h = one kind.Uint8 refl h
  base_lies bases.Int16 k rest h = one kind.Int16 refl h
  base_lies bases.Uint16 k rest h = one kind.Uint16 refl h
  base_lies bases.Int32 k rest h = one kind.Int32 refl h
  base_lies bases.Uint32 k rest h = one kind.Uint32 refl h
  base_lies bases.Float k rest h = one kind.Float refl h
  base_lies bases.Double k rest h = one kind.Double refl h
  base_lies bases.String k rest h = one kind.String refl h
  base_lies bases.Evflag k rest h = one kind.Evflag refl h
  base_lies (bases.Enum n) k rest h = token kind.Enum refl h.1 (leaf_lies inside d kind.Name n h.0 rest refl h.2)
  base_lies (bases.Struct n) k rest h = token kind.Struct refl h.1 (leaf_lies inside d kind.Name n h.0 rest refl h.2)
  base_lies (bases.Union n) k rest h = token kind.Union refl h.1 (leaf_lies inside d kind.Name n h.0 rest refl h.2)
  base_lies (bases.Typename n) k rest h = token kind.Typename refl h.1 (leaf_lies inside d kind.Name n h.0 rest refl h.2)

  pub type_lies : (t : QualifiedType) (k rest : List NumberedKind) → IsType t k rest → Lies inside (suc d) k rest
  type_lies t k rest h =
      lies_then (written_lies inside d kind.Const t.leading_const k h.m1 refl h.before)
      (lies_then (base_lies t.base h.m1 h.m2 h.base) (written_lies inside d kind.Const t.trailing_const h.m2 rest refl h.after))

  pointer_lies : (p : Pointer) (k rest : List NumberedKind) → IsPointer p k rest → Lies inside (suc d) k rest
  pointer_lies pointers.Plain k rest h = one kind.Star refl h
  pointer_lies pointers.Const k rest h = token kind.Star refl h.1 (one kind.Const refl h.2)

  pub stars_lie : (ps : List Pointer) (k rest : List NumberedKind) → Each IsPointer ps k rest → Lies inside (suc d) k rest
  stars_lie = each_lie inside IsPointer (suc d) pointer_lies

  pub type_name_lies : (t : TypeName) (k rest : List NumberedKind) → IsTypeName t k rest → Lies inside (suc d) k rest
  type_name_lies t k rest h = lies_then (type_lies t.of k h.mid h.of_type) (stars_lie t.pointers h.mid rest h.stars)
